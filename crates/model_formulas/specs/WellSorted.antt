-- The sorts of formulas: at which sort a formula may be judged, and its first part at fault.
-- Parts are formulas, counted from 0, a formula before its parts; a term at fault is its formula's.
use Rattle.std.specs.Prelude.{ℕ, Bool, true, false, ◌&&◌, ◌||◌, not, Option, List, [], ◌∷◌, ◌++◌}
use Rattle.std.specs.List.{position_from}
use Rattle.model_shapes.specs.Tests.{same_sort, same_data_sort}
use Rattle.model_shapes.specs.Sorts.{Sort, value, shape, context, node_sort, list_sort, int_sort, str_sort, bool_sort, DataSort, tree, forest, grove, is_sort, outer, inner, with_outer}
use Rattle.model_terms.specs.Variables.{Var, logic}
use Rattle.model_terms.specs.Terms.{Term, variable}
pub use Rattle.model_terms.specs.TermSorts.{is_literal, has_sort, both_have}
use Rattle.model_formulas.specs.Formulas.{Named, Side, whole, truth, falsity, conjunction, disjunction, implication, negation, existential, universal, equality, at_most, empty, bare_hole, node_formula, one_tree, one_root, concatenation, grove_sum, grove_sum_hole, application, hole_adjoint, context_adjoint, same_as, length_is, value_meets, left_sort, right_sort}

-- a sort at which a formula is judged: a data sort, or a context sort that is one
abbrev pub is_form : Sort → Bool
is_form (value v) = false
is_form s = is_sort s

-- two logic variables of one data or context sort
abbrev pub both_logic_of_one_sort : Term → Term → Bool
both_logic_of_one_sort (variable (logic x s)) (variable (logic y u)) = is_form s && same_sort s u
both_logic_of_one_sort a b = false

-- two terms of one sort
abbrev pub one_sort : Term → Term → Bool
one_sort a b =
    both_have node_sort a b || (both_have list_sort a b || (both_have int_sort a b
    || (both_have str_sort a b || (both_have bool_sort a b || both_logic_of_one_sort a b))))

-- a data sort
abbrev pub is_shape : Sort → Bool
is_shape (shape k) = true
is_shape s = false

-- a context sort, or one of the two that are none
abbrev pub is_context : Sort → Bool
is_context (context h k) = true
is_context s = false

-- a sort of formulas that gives this data sort
abbrev pub has_outer : Sort → DataSort → Bool
has_outer s k = is_form s && same_data_sort (outer s) k

-- a concatenation of this side stands at the sort
abbrev pub side_fits : Side → Sort → Bool
side_fits whole s = is_shape s
side_fits side s = is_context s

-- a logic variable of a sort that is one, as a quantifier takes it
abbrev pub may_bind : Var → Bool
may_bind (logic name s) = is_sort s
may_bind x = false

-- a logic variable of the sort
abbrev pub variable_at : Sort → Term → Bool
variable_at s (variable (logic name u)) = same_sort s u
variable_at s a = false

-- Whether the formula, and after it each of its parts in order, may be judged where it stands, its
-- own parts apart: the table of formulas, with the sort at which each part is judged.
abbrev pub flags : Named → Sort → List Bool
flags truth s = is_form s ∷ []
flags falsity s = is_form s ∷ []
flags (conjunction p q) s = is_form s ∷ flags p s ++ flags q s
flags (disjunction p q) s = is_form s ∷ flags p s ++ flags q s
flags (implication p q) s = is_form s ∷ flags p s ++ flags q s
flags (negation p) s = is_form s ∷ flags p s
flags (existential x p) s = (is_form s && may_bind x) ∷ flags p s
flags (universal x p) s = (is_form s && may_bind x) ∷ flags p s
flags (equality a b) s = (is_form s && one_sort a b) ∷ []
flags (at_most a b) s = (is_form s && both_have int_sort a b) ∷ []
flags (empty tree) s = false ∷ []
flags (empty k) s = same_sort s (shape k) ∷ []
flags (bare_hole h) s = same_sort s (context h h) ∷ []
flags (node_formula name number p list) s =
    (has_outer s tree && (is_sort (with_outer forest s) && (has_sort str_sort name
    && (has_sort node_sort number && has_sort list_sort list)))) ∷ flags p (with_outer forest s)
flags (one_tree p) s =
    (has_outer s forest && is_sort (with_outer tree s)) ∷ flags p (with_outer tree s)
flags (one_root p) s =
    (has_outer s grove && is_sort (with_outer tree s)) ∷ flags p (with_outer tree s)
flags (concatenation side p q) s =
    (has_outer s forest && side_fits side s)
    ∷ flags p (left_sort side s) ++ flags q (right_sort side s)
flags (grove_sum p q) s = same_sort s (shape grove) ∷ flags p s ++ flags q s
flags (grove_sum_hole p q) s =
    (has_outer s grove && is_context s) ∷ flags p s ++ flags q (shape grove)
flags (application h p q) s =
    (is_form s && (is_sort (context h (outer s)) && is_sort (with_outer h s)))
    ∷ flags p (context h (outer s)) ++ flags q (with_outer h s)
flags (hole_adjoint p q) s =
    (is_form s && is_context s) ∷ flags p (shape (inner s)) ++ flags q (shape (outer s))
flags (context_adjoint k p q) s =
    (is_shape s && is_sort (context (outer s) k))
    ∷ flags p (context (outer s) k) ++ flags q (shape k)
flags (same_as a) s = (is_form s && variable_at s a) ∷ []
flags (length_is a) s = (same_sort s (shape forest) && has_sort int_sort a) ∷ []
flags (value_meets u a p) s = (is_form s && (is_form u && variable_at u a)) ∷ flags p u

-- the place of the first part at fault of a formula judged at the sort
abbrev pub first_fault : Named → Sort → Option ℕ
first_fault p s = position_from not 0 (flags p s)
