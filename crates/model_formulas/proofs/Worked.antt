-- Worked rows, by computing: sameness and substitution under a binder, and first parts at fault.
use Rattle.std.proofs.Common.{◌≡◌, ◌∷◌, [], refl, true, false, Bool, Some, None, pos}
use Rattle.model_shapes.specs.Sorts.{value, shape, context, int_sort, node_sort, tree, forest, grove}
use Rattle.model_shapes.specs.Values.{null, nolist, int, str}
use Rattle.model_terms.specs.Variables.{Var, logic, prog, bound}
use Rattle.model_terms.specs.Terms.{Term, literal, variable, sum}
use Rattle.model_formulas.specs.Formulas.{Named, truth, conjunction, negation, existential, universal, equality, at_most, empty, bare_hole, same_as, node_formula, application, length_is, value_meets, is_pure}
use Rattle.model_formulas.specs.Substitution.{formula_with, replacing}
use Rattle.model_formulas.specs.Nameless.{nameless}
use Rattle.model_formulas.specs.SameFormulas.{same_formula}
use Rattle.model_formulas.specs.WellSorted.{first_fault}

-- logic variables on int: m, n, k; a program variable a on int
abbrev m : Var
m = logic (109 ∷ []) (value int_sort)

abbrev n : Var
n = logic (110 ∷ []) (value int_sort)

abbrev k : Var
k = logic (107 ∷ []) (value int_sort)

abbrev a : Term
a = variable (prog (97 ∷ []) int_sort)

-- ({a + 1} = x)
abbrev next_is : Var → Named
next_is x = equality (sum a (literal (int (pos 1)))) (variable x)

-- (not n = x)
abbrev differs : Var → Named
differs x = negation (equality (variable n) (variable x))

-- a test of sameness
abbrev same : Named → Named → Bool
same p q = same_formula (nameless p) (nameless q)

-- the names of bound variables don't matter
bound_names : same (existential m (next_is m)) (existential n (next_is n)) ≡ true
bound_names = refl

-- and the nameless form has the number of binders in between
bound_numbers : nameless (existential m (existential n (equality (variable m) (variable n))))
    ≡ existential (value int_sort) (existential (value int_sort)
    (equality (variable (bound 1 (value int_sort))) (variable (bound 0 (value int_sort)))))
bound_numbers = refl

-- a free variable isn't a bound one
free_names : same (existential m (next_is m)) (existential m (next_is n)) ≡ false
free_names = refl

-- one name at two sorts is two variables
two_sorts : same (existential m (next_is m))
    (existential (logic (109 ∷ []) (value node_sort)) (next_is m)) ≡ false
two_sorts = refl

-- (exists m . (not n = m)) with m for n is (exists k . (not m = k)), and nothing is captured
not_captured : formula_with (replacing n (variable m)) (nameless (existential m (differs m)))
    ≡ nameless (existential k (negation (equality (variable m) (variable k))))
not_captured = refl

captured : same_formula
    (formula_with (replacing n (variable m)) (nameless (existential m (differs m))))
    (nameless (existential m (negation (equality (variable m) (variable m))))) ≡ false
captured = refl

-- a bound variable isn't replaced
not_replaced : formula_with (replacing m a) (nameless (existential m (next_is m)))
    ≡ nameless (existential m (next_is m))
not_replaced = refl

-- "s"#null[P]%nolist
abbrev at_node : Named → Named
at_node p = node_formula (literal (str (115 ∷ []))) (literal null) p (literal nolist)

-- a node whose children have the hole: judged at a context of trees
node_with_hole : first_fault (at_node (bare_hole forest)) (context forest tree) ≡ None
node_with_hole = refl

-- the hole for a tree doesn't stand among its children at that sort: the second part is at fault
node_with_other : first_fault (at_node (bare_hole forest)) (context tree tree) ≡ Some 1
node_with_other = refl

-- a formula isn't judged at a value sort, nor at the two sorts that are none
at_value : first_fault truth (value int_sort) ≡ Some 0
at_value = refl

at_none : first_fault truth (context grove tree) ≡ Some 0
at_none = refl

-- (true @t true) has its first part at a context of trees: at groves with a hole for groves its
-- second part would be judged at none, so the formula itself is at fault
part_at_none : first_fault (application tree truth truth) (context grove grove) ≡ Some 0
part_at_none = refl

part_at_sort : first_fault (application tree truth truth) (context tree grove) ≡ None
part_at_sort = refl

-- a quantifier over a variable of a sort that is none
bound_none : first_fault (universal (logic (120 ∷ []) (context grove forest)) truth) (shape tree)
    ≡ Some 0
bound_none = refl

-- the parts are counted in order, a formula before its parts
second_part : first_fault (conjunction (negation truth) (length_is (literal null))) (shape forest)
    ≡ Some 3
second_part = refl

-- the variable of `is` has no value sort
is_of_value : first_fault (value_meets (value int_sort) (variable m) truth) (shape grove) ≡ Some 0
is_of_value = refl

-- two variables of one context sort may be compared
compared : first_fault (equality (variable (logic (120 ∷ []) (context tree grove)))
    (variable (logic (121 ∷ []) (context tree grove)))) (shape grove) ≡ None
compared = refl

-- ($x is 0g) is pure, though 0g isn't
is_of_empty : is_pure {Binder = Var}
    (value_meets (shape grove) (variable (logic (120 ∷ []) (shape grove))) (empty grove)) ≡ true
is_of_empty = refl

empty_not_pure : is_pure {Binder = Var} (empty grove) ≡ false
empty_not_pure = refl

-- a bound variable can't be written
bound_written : first_fault (at_most (variable (bound 0 (value int_sort))) (literal (int (pos 0))))
    (shape tree) ≡ Some 0
bound_written = refl

bound_shape : first_fault (same_as (variable (bound 0 (shape tree)))) (shape tree) ≡ Some 0
bound_shape = refl

bound_compared : first_fault (equality (variable (bound 0 (shape tree)))
    (variable (bound 0 (shape tree)))) (shape tree) ≡ Some 0
bound_compared = refl
