-- The rows of the table of weakest preconditions, with a name for each variable that a row brings,
-- in the order in which it brings them. PODS 2008 has such formulas for its commands.
use Rattle.std.specs.Prelude.{negsuc}
use Rattle.model_shapes.specs.Sorts.{Sort, value, shape, context, node_sort, list_sort, int_sort, str_sort, tree, forest, grove}
use Rattle.model_shapes.specs.Values.{Name, null, int}
use Rattle.model_terms.specs.Variables.{Var, logic}
use Rattle.model_terms.specs.Terms.{Term, literal, variable}
use Rattle.model_terms.specs.Stores.{ProgVar, sort_of}
use Rattle.model_formulas.specs.Formulas.{Named, whole, truth, conjunction, disjunction, existential, universal, equality, at_most, empty, bare_hole, node_formula, one_tree, one_root, concatenation, grove_sum, grove_sum_hole, application, hole_adjoint, context_adjoint, same_as, length_is, value_meets}

-- a variable of the sort
abbrev pub of_sort : Sort → Name → Var
of_sort s name = logic name s

abbrev pub node_of : Name → Var
node_of = of_sort (value node_sort)

abbrev pub str_of : Name → Var
str_of = of_sort (value str_sort)

abbrev pub list_of : Name → Var
list_of = of_sort (value list_sort)

abbrev pub int_of : Name → Var
int_of = of_sort (value int_sort)

abbrev pub tree_of : Name → Var
tree_of = of_sort (shape tree)

abbrev pub forest_of : Name → Var
forest_of = of_sort (shape forest)

abbrev pub grove_of : Name → Var
grove_of = of_sort (shape grove)

abbrev pub context_of : Name → Var
context_of = of_sort (context tree grove)

-- the value that a read or an assignment gives the variable
abbrev pub value_for : ProgVar → Name → Var
value_for x = of_sort (value (sort_of x))

-- a variable as a formula
abbrev pub same : Var → Named
same x = same_as (variable x)

-- (true @t P), and ((P * <Q>) * true)
abbrev pub somewhere : Named → Named
somewhere p = application tree truth p

abbrev pub among_others : Named → Named → Named
among_others p q = concatenation whole (concatenation whole p (one_tree q)) truth

-- S#I[P]%L with variables for S and L
abbrev pub named_node : Name → Term → Named → Name → Named
named_node s e p l = node_formula (variable (str_of s)) e p (variable (list_of l))

-- some tree with the node number E
abbrev pub written_tree : Term → Name → Name → Named
written_tree e t m = existential (str_of t) (existential (list_of m) (named_node t e truth m))

-- a formula without the tree
abbrev pub written_out : Name → Named → Named
written_out u p =
    disjunction
    (application forest (hole_adjoint (empty forest) p) (one_tree (same (tree_of u))))
    (application grove (hole_adjoint (empty grove) p) (one_root (same (tree_of u))))

-- (exists $v . (P and Q'))
abbrev pub written_taking : ProgVar → Name → Named → Named → Named
written_taking x v p q = existential (value_for x v) (conjunction p q)

-- what the reads say of $v
abbrev pub written_name : ProgVar → Name → Term → Name → Named
written_name x v e l =
    existential (list_of l) (somewhere
    (node_formula (variable (value_for x v)) e truth (variable (list_of l))))

abbrev pub written_children : ProgVar → Name → Term → Name → Named
written_children x v e s =
    existential (str_of s) (somewhere
    (node_formula (variable (str_of s)) e truth (variable (value_for x v))))

abbrev pub written_parent : ProgVar → Name → Term → Name → Name → Name → Name → Name → Name
    → Named
written_parent x v e s t l m t' m' =
    disjunction
    (existential (str_of s) (existential (str_of t) (existential (list_of l)
    (existential (list_of m) (somewhere (named_node s (variable (value_for x v))
    (among_others truth (named_node t e truth m)) l))))))
    (conjunction
    (existential (str_of t') (existential (list_of m') (grove_sum
    (one_root (named_node t' e truth m')) truth)))
    (equality (variable (value_for x v)) (literal null)))

abbrev pub written_item : ProgVar → Name → Term → Term → Name → Name → Name → Name → Name → Name
    → Name → Named
written_item x v e f s i t m s' i' n =
    disjunction
    (existential (str_of s) (existential (node_of i) (existential (str_of t)
    (existential (list_of m) (somewhere (node_formula (variable (str_of s)) (variable (node_of i))
    (among_others (length_is f) (named_node t (variable (value_for x v)) truth m)) e))))))
    (conjunction
    (existential (str_of s') (existential (node_of i') (existential (int_of n) (conjunction
    (somewhere (node_formula (variable (str_of s')) (variable (node_of i'))
    (length_is (variable (int_of n))) e))
    (disjunction (at_most f (literal (int (negsuc 0)))) (at_most (variable (int_of n)) f))))))
    (equality (variable (value_for x v)) (literal null)))

-- createNode
abbrev pub written_create : Name → Name → Term → Named → Named
written_create v m e q =
    universal (node_of v) (universal (list_of m) (context_adjoint grove
    (grove_sum_hole (bare_hole grove) (one_root (node_formula e (variable (node_of v))
    (empty forest) (variable (list_of m))))) q))

-- ($c @t $s#E[P]%$l), and (P * <$u>)
abbrev pub written_standing : Name → Name → Term → Named → Name → Named
written_standing c s e p l = application tree (same (context_of c)) (named_node s e p l)

abbrev pub followed_by : Named → Name → Named
followed_by p u = concatenation whole p (one_tree (same (tree_of u)))

-- ($x is P)
abbrev pub written_is : Sort → Name → Named → Named
written_is s x p = value_meets s (variable (of_sort s x)) p

-- the moves
abbrev pub written_appended : Term → Term → Name → Name → Name → Name → Name → Name → Name → Name
    → Named
written_appended e f r c s q l u t m =
    existential (context_of c) (existential (str_of s) (existential (forest_of q)
    (existential (list_of l) (existential (tree_of u) (conjunction
    (conjunction (written_out u (written_standing c s e (same (forest_of q)) l))
    (written_is (shape tree) u (written_tree f t m)))
    (written_is (shape grove) r
    (written_standing c s e (followed_by (same (forest_of q)) u) l)))))))

abbrev pub written_removed : Term → Term → Name → Name → Name → Name → Name → Name → Name → Name
    → Name → Named
written_removed e f r c s q p l u t m =
    existential (context_of c) (existential (str_of s) (existential (forest_of q)
    (existential (forest_of p) (existential (list_of l) (existential (tree_of u) (conjunction
    (conjunction (written_standing c s e (concatenation whole
    (followed_by (same (forest_of q)) u) (same (forest_of p))) l)
    (written_is (shape tree) u (written_tree f t m)))
    (written_is (shape grove) r (grove_sum
    (written_standing c s e (concatenation whole (same (forest_of q)) (same (forest_of p))) l)
    (one_root (same (tree_of u)))))))))))

abbrev pub written_inserted : Term → Term → Term → Name → Name → Name → Name → Name → Name → Name
    → Name → Name → Name → Name → Name → Named
written_inserted e f g r c s q p l u w t m t' m' =
    existential (context_of c) (existential (str_of s) (existential (forest_of q)
    (existential (forest_of p) (existential (list_of l) (existential (tree_of u)
    (existential (tree_of w) (conjunction
    (conjunction
    (conjunction
    (written_out u (written_standing c s e (concatenation whole
    (followed_by (same (forest_of q)) w) (same (forest_of p))) l))
    (written_is (shape tree) u (written_tree f t m)))
    (written_is (shape tree) w (written_tree g t' m')))
    (written_is (shape grove) r
    (written_standing c s e (concatenation whole
    (followed_by (followed_by (same (forest_of q)) u) w) (same (forest_of p))) l)))))))))

-- (exists $r . (P and ($r is Q)))
abbrev pub written_moving : Name → Named → Named → Named
written_moving r p q =
    existential (grove_of r) (conjunction p (written_is (shape grove) r q))
