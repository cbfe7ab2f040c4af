-- Needn't be believed: the program's promise doesn't speak of it. The weakest precondition of a
-- straight-line command as a formula, by a table of commands. The formulas have no names of bound
-- variables, so each variable that the table brings is new by itself: it is written by the number
-- of binders between it and its own. The terms of a command, which have no bound variables, stay as
-- they are under binders.
use Rattle.std.specs.Prelude.{ℕ, negsuc}
use Rattle.model_shapes.specs.Sorts.{Sort, value, shape, context, node_sort, list_sort, int_sort, str_sort, tree, forest, grove}
use Rattle.model_shapes.specs.Values.{null, int}
use Rattle.model_terms.specs.Variables.{bound}
use Rattle.model_terms.specs.Terms.{Term, literal, variable, raised_var}
use Rattle.model_terms.specs.Stores.{ProgVar, as_var, sort_of}
use Rattle.model_formulas.specs.Formulas.{Formula, whole, truth, conjunction, disjunction, existential, universal, equality, at_most, empty, bare_hole, node_formula, one_tree, one_root, concatenation, grove_sum, grove_sum_hole, application, hole_adjoint, context_adjoint, same_as, length_is, value_meets}
use Rattle.model_formulas.specs.Substitution.{formula_with, closing}
use Rattle.model_commands.specs.Commands.{Command, block, assign, create_node, node_name, child_nodes, parent_node, list_item, append_child, remove_child, insert_before, Block, stop, ◌then◌}

-- the variable of the n-th binder outwards, from 0
abbrev pub at : ℕ → Sort → Term
at n s = variable (bound n s)

-- the same for a value of this sort
abbrev pub node_var : ℕ → Term
node_var n = at n (value node_sort)

abbrev pub str_var : ℕ → Term
str_var n = at n (value str_sort)

abbrev pub list_var : ℕ → Term
list_var n = at n (value list_sort)

abbrev pub int_var : ℕ → Term
int_var n = at n (value int_sort)

-- (exists $a . P) with a value of this sort for $a
abbrev pub some_node : Formula → Formula
some_node = existential (value node_sort)

abbrev pub some_str : Formula → Formula
some_str = existential (value str_sort)

abbrev pub some_list : Formula → Formula
some_list = existential (value list_sort)

abbrev pub some_int : Formula → Formula
some_int = existential (value int_sort)

-- the same formula under one more binder
abbrev pub below : Formula → Formula
below = formula_with (λ x. variable (raised_var x))

-- (true @t P)
abbrev pub anywhere : Formula → Formula
anywhere p = application tree truth p

-- ((K * <P>) * true): a child that meets P, and before it children that meet K
abbrev pub among : Formula → Formula → Formula
among before p = concatenation whole (concatenation whole before (one_tree p)) truth

-- some tree with the node number E: (exists $t . (exists $m . $t#E[true]%$m))
abbrev pub some_tree : Term → Formula
some_tree e = some_str (some_list (node_formula (str_var 1) e truth (list_var 0)))

-- X without the tree $u, wherever it stands: (((0f -o X) @f <$u>) or ((0g -o X) @g [$u]))
abbrev pub taken_out : Term → Formula → Formula
taken_out u x =
    disjunction (application forest (hole_adjoint (empty forest) x) (one_tree (same_as u)))
    (application grove (hole_adjoint (empty grove) x) (one_root (same_as u)))

-- (exists $v . (P and Q')), where Q' is Q with $v for the program variable x
abbrev pub taking : ProgVar → Formula → Formula → Formula
taking x p q = existential (value (sort_of x)) (conjunction p (formula_with (closing (as_var x)) q))

-- Whatever numbers $v and $m the new root has, the grove with it beside the others meets Q':
-- (forall $v . (forall $m . ((?g .+ [E#$v[0f]%$m]) o-g Q')))
abbrev pub with_new_root : ProgVar → Term → Formula → Formula
with_new_root x e q =
    universal (value node_sort) (universal (value list_sort) (context_adjoint grove
    (grove_sum_hole (bare_hole grove)
    (one_root (node_formula e (node_var 1) (empty forest) (list_var 0))))
    (below (formula_with (closing (as_var x)) q))))

-- What a read says of its value $v, the variable of the nearest binder. Here it is the name of E:
-- (exists $l . (true @t $v#E[true]%$l))
abbrev pub has_name : ProgVar → Term → Formula
has_name x e =
    some_list (anywhere (node_formula (at 1 (value (sort_of x))) e truth (list_var 0)))

-- the children list of E: (exists $s . (true @t $s#E[true]%$v))
abbrev pub has_children : ProgVar → Term → Formula
has_children x e =
    some_str (anywhere (node_formula (str_var 0) e truth (at 1 (value (sort_of x)))))

-- The parent of E, or null where E is a root: ((exists $s $t $l $m .
-- (true @t $s#$v[((true * <$t#E[true]%$m>) * true)]%$l))
-- or ((exists $t $m . ([$t#E[true]%$m] + true)) and $v = null))
abbrev pub has_parent : ProgVar → Term → Formula
has_parent x e =
    disjunction
    (some_str (some_str (some_list (some_list (anywhere (node_formula (str_var 3)
    (at 4 (value (sort_of x))) (among truth (node_formula (str_var 2) e truth (list_var 0)))
    (list_var 1)))))))
    (conjunction
    (some_str (some_list (grove_sum (one_root (node_formula (str_var 1) e truth (list_var 0)))
    truth)))
    (equality (at 0 (value (sort_of x))) (literal null)))

-- The child at the place F of the list E, or null where F is no place of it: ((exists $s $i $t $m .
-- (true @t $s#$i[((len F * <$t#$v[true]%$m>) * true)]%E)) or ((exists $s $i $n .
-- ((true @t $s#$i[len $n]%E) and (F <= -1 or $n <= F))) and $v = null))
abbrev pub has_item : ProgVar → Term → Term → Formula
has_item x e f =
    disjunction
    (some_str (some_node (some_str (some_list (anywhere (node_formula (str_var 3) (node_var 2)
    (among (length_is f) (node_formula (str_var 1) (at 4 (value (sort_of x))) truth (list_var 0)))
    e))))))
    (conjunction
    (some_str (some_node (some_int (conjunction
    (anywhere (node_formula (str_var 2) (node_var 1) (length_is (int_var 0)) e))
    (disjunction (at_most f (literal (int (negsuc 0)))) (at_most (int_var 0) f))))))
    (equality (at 0 (value (sort_of x))) (literal null)))

-- ($c @t $s#E[P]%$l), with the places of $c, $s and $l
abbrev pub standing : ℕ → ℕ → Term → Formula → ℕ → Formula
standing c s e inside l =
    application tree (same_as (at c (context tree grove)))
    (node_formula (str_var s) e inside (list_var l))

-- (P * <$u>), with the place of $u
abbrev pub and_tree : Formula → ℕ → Formula
and_tree p u = concatenation whole p (one_tree (same_as (at u (shape tree))))

-- That $r, the variable of the nearest binder, is the grove after the child $u, numbered F, went to
-- the end of the children of E: (exists $c $s $q $l $u . ((A and B) and
-- ($r is ($c @t $s#E[($q * <$u>)]%$l)))). A is ($c @t $s#E[$q]%$l) without $u, and B says that $u
-- is some tree with the number F. The five are 4 to 0 there, and $r is 5.
abbrev pub appended : Term → Term → Formula
appended e f =
    existential (context tree grove) (some_str (existential (shape forest) (some_list
    (existential (shape tree) (conjunction
    (conjunction (taken_out (at 0 (shape tree)) (standing 4 3 e (same_as (at 2 (shape forest))) 1))
    (value_meets (shape tree) (at 0 (shape tree)) (some_tree f)))
    (value_meets (shape grove) (at 5 (shape grove))
    (standing 4 3 e (and_tree (same_as (at 2 (shape forest))) 0) 1)))))))

-- That it is the grove after the child went from the children of E to the roots:
-- (exists $c $s $q $p $l $u . ((($c @t $s#E[(($q * <$u>) * $p)]%$l) and B) and
-- ($r is (($c @t $s#E[($q * $p)]%$l) + [$u])))). The six are 5 to 0 there, and $r is 6.
abbrev pub removed : Term → Term → Formula
removed e f =
    existential (context tree grove) (some_str (existential (shape forest)
    (existential (shape forest) (some_list (existential (shape tree) (conjunction
    (conjunction (standing 5 4 e (concatenation whole (and_tree (same_as (at 3 (shape forest))) 0)
    (same_as (at 2 (shape forest)))) 1)
    (value_meets (shape tree) (at 0 (shape tree)) (some_tree f)))
    (value_meets (shape grove) (at 6 (shape grove)) (grove_sum
    (standing 5 4 e (concatenation whole (same_as (at 3 (shape forest)))
    (same_as (at 2 (shape forest)))) 1)
    (one_root (same_as (at 0 (shape tree))))))))))))

-- That it is the grove after the child went before $w, a child of E:
-- (exists $c $s $q $p $l $u $w . (((A and B) and C) and
-- ($r is ($c @t $s#E[((($q * <$u>) * <$w>) * $p)]%$l)))). A is ($c @t $s#E[(($q * <$w>) * $p)]%$l)
-- without $u, and C says that $w is some tree with the number G. The seven are 6 to 0 there, and $r
-- is 7.
abbrev pub inserted : Term → Term → Term → Formula
inserted e f g =
    existential (context tree grove) (some_str (existential (shape forest)
    (existential (shape forest) (some_list (existential (shape tree) (existential (shape tree)
    (conjunction
    (conjunction
    (conjunction (taken_out (at 1 (shape tree)) (standing 6 5 e (concatenation whole
    (and_tree (same_as (at 4 (shape forest))) 0) (same_as (at 3 (shape forest)))) 2))
    (value_meets (shape tree) (at 1 (shape tree)) (some_tree f)))
    (value_meets (shape tree) (at 0 (shape tree)) (some_tree g)))
    (value_meets (shape grove) (at 7 (shape grove)) (standing 6 5 e (concatenation whole
    (and_tree (and_tree (same_as (at 4 (shape forest))) 1) 0) (same_as (at 3 (shape forest))))
    2)))))))))

-- the same where G may be null, and then the child goes to the end: ((G = null and A) or B)
abbrev pub inserted_at : Term → Term → Term → Formula
inserted_at e f g =
    disjunction (conjunction (equality g (literal null)) (appended e f)) (inserted e f g)

-- (exists $r . (P and ($r is Q)))
abbrev pub moving : Formula → Formula → Formula
moving p q =
    existential (shape grove) (conjunction p (value_meets (shape grove) (at 0 (shape grove))
    (below q)))

-- THE TABLE: one case for each command; of one that isn't straight-line nothing is said
abbrev mutual
  pub weakest : Command → Formula → Formula
  weakest (block b) q = weakest_of b q
  weakest (assign x e) q = taking x (equality (at 0 (value (sort_of x))) e) q
  weakest (create_node x e) q = with_new_root x e q
  weakest (node_name x e) q = taking x (has_name x e) q
  weakest (child_nodes x e) q = taking x (has_children x e) q
  weakest (parent_node x e) q = taking x (has_parent x e) q
  weakest (list_item x e f) q = taking x (has_item x e f) q
  weakest (append_child e f) q = moving (appended e f) q
  weakest (remove_child e f) q = moving (removed e f) q
  weakest (insert_before e f g) q = moving (inserted_at e f g) q
  weakest command q = q

  pub weakest_of : Block → Formula → Formula
  weakest_of stop q = q
  weakest_of (c then b) q = weakest c (weakest_of b q)
