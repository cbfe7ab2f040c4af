-- Needn't be believed: a law says that there are as many flags. The parts of a formula, counted.
use Rattle.std.specs.Prelude.{ℕ, ◌+◌}
use Rattle.model_formulas.specs.Formulas.{Named, truth, falsity, conjunction, disjunction, implication, negation, existential, universal, equality, at_most, empty, bare_hole, node_formula, one_tree, one_root, concatenation, grove_sum, grove_sum_hole, application, hole_adjoint, context_adjoint, same_as, length_is, value_meets}

-- how many parts a formula has, itself included
abbrev pub parts : Named → ℕ
parts truth = 1
parts falsity = 1
parts (conjunction p q) = 1 + (parts p + parts q)
parts (disjunction p q) = 1 + (parts p + parts q)
parts (implication p q) = 1 + (parts p + parts q)
parts (negation p) = 1 + parts p
parts (existential x p) = 1 + parts p
parts (universal x p) = 1 + parts p
parts (equality a b) = 1
parts (at_most a b) = 1
parts (empty k) = 1
parts (bare_hole h) = 1
parts (node_formula name number p list) = 1 + parts p
parts (one_tree p) = 1 + parts p
parts (one_root p) = 1 + parts p
parts (concatenation side p q) = 1 + (parts p + parts q)
parts (grove_sum p q) = 1 + (parts p + parts q)
parts (grove_sum_hole p q) = 1 + (parts p + parts q)
parts (application h p q) = 1 + (parts p + parts q)
parts (hole_adjoint p q) = 1 + (parts p + parts q)
parts (context_adjoint k p q) = 1 + (parts p + parts q)
parts (same_as a) = 1
parts (length_is a) = 1
parts (value_meets s a p) = 1 + parts p
