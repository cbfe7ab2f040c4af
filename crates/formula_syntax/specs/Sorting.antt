-- Needn't be believed: the sort test is stated by `first_fault`. What a formula itself, its parts
-- apart, must meet to be judged at a sort: the first argument of `own` in `first_fault`.
use Rattle.std.specs.Prelude.{Bool, ◌&&◌}
use Rattle.model_shapes.specs.Tests.{same_sort}
use Rattle.model_shapes.specs.Sorts.{Sort, shape, context, node_sort, list_sort, int_sort, str_sort, tree, forest, grove, is_sort, outer, with_outer}
use Rattle.model_terms.specs.Variables.{var_sort}
use Rattle.model_formulas.specs.Formulas.{Named, truth, falsity, conjunction, disjunction, implication, negation, existential, universal, equality, at_most, empty, bare_hole, node_formula, one_tree, one_root, concatenation, grove_sum, grove_sum_hole, application, hole_adjoint, context_adjoint, same_as, length_is, value_meets}
use Rattle.model_formulas.specs.WellSorted.{has_sort, both_have, is_form, one_sort, is_shape, is_context, has_outer, side_fits, variable_at}

-- the formula itself fits the sort
abbrev pub fits : Named → Sort → Bool
fits truth s = is_form s
fits falsity s = is_form s
fits (conjunction p q) s = is_form s
fits (disjunction p q) s = is_form s
fits (implication p q) s = is_form s
fits (negation p) s = is_form s
fits (existential x p) s = is_form s && is_sort (var_sort x)
fits (universal x p) s = is_form s && is_sort (var_sort x)
fits (equality a b) s = is_form s && one_sort a b
fits (at_most a b) s = is_form s && both_have int_sort a b
fits (empty k) s = same_sort s (shape k)
fits (bare_hole h) s = same_sort s (context h h)
fits (node_formula name number p list) s =
    has_outer s tree && (is_sort (with_outer forest s) && (has_sort str_sort name
    && (has_sort node_sort number && has_sort list_sort list)))
fits (one_tree p) s = has_outer s forest && is_sort (with_outer tree s)
fits (one_root p) s = has_outer s grove && is_sort (with_outer tree s)
fits (concatenation side p q) s = has_outer s forest && side_fits side s
fits (grove_sum p q) s = same_sort s (shape grove)
fits (grove_sum_hole p q) s = has_outer s grove && is_context s
fits (application h p q) s =
    is_form s && (is_sort (context h (outer s)) && is_sort (with_outer h s))
fits (hole_adjoint p q) s = is_form s && is_context s
fits (context_adjoint k p q) s = is_shape s && is_sort (context (outer s) k)
fits (same_as a) s = is_form s && variable_at s a
fits (length_is a) s = same_sort s (shape forest) && has_sort int_sort a
fits (value_meets u a p) s = is_form s && (is_form u && variable_at u a)
