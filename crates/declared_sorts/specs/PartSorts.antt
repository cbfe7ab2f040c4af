-- Needn't be believed: it serves the contracts of private functions. The sorts of the two parts of
-- a formula that is judged at a sort; of one with one part, the first of them.
use Rattle.model_shapes.specs.Sorts.{Sort, shape, context, tree, grove, inner, outer, with_outer}
use Rattle.model_formulas.specs.Formulas.{Named, one_tree, one_root, concatenation, grove_sum_hole, application, hole_adjoint, context_adjoint, left_sort, right_sort}

abbrev pub part_sorts : Named → Sort → Sort × Sort
part_sorts (one_tree p) s = (with_outer tree s, s)
part_sorts (one_root p) s = (with_outer tree s, s)
part_sorts (concatenation side p q) s = (left_sort side s, right_sort side s)
part_sorts (grove_sum_hole p q) s = (s, shape grove)
part_sorts (application h p q) s = (context h (outer s), with_outer h s)
part_sorts (hole_adjoint p q) s = (shape (inner s), shape (outer s))
part_sorts (context_adjoint k p q) s = (context (outer s) k, shape k)
part_sorts p s = (s, s)
