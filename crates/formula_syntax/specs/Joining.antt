-- Needn't be believed: it serves the contracts of private functions. A formula with other formulas
-- for its parts.
use Rattle.std.specs.Prelude.{Bool, true, false}
use Rattle.model_formulas.specs.Formulas.{Named, conjunction, disjunction, implication, negation, one_tree, one_root, concatenation, grove_sum, grove_sum_hole, application, hole_adjoint, context_adjoint}

-- it has two parts
abbrev pub has_two_parts : Named → Bool
has_two_parts (conjunction p q) = true
has_two_parts (disjunction p q) = true
has_two_parts (implication p q) = true
has_two_parts (concatenation side p q) = true
has_two_parts (grove_sum p q) = true
has_two_parts (grove_sum_hole p q) = true
has_two_parts (application h p q) = true
has_two_parts (hole_adjoint p q) = true
has_two_parts (context_adjoint k p q) = true
has_two_parts p = false

-- it is its one part, in or under something
abbrev pub has_one_part : Named → Bool
has_one_part (negation p) = true
has_one_part (one_tree p) = true
has_one_part (one_root p) = true
has_one_part p = false

-- with these two
abbrev pub joining : Named → Named → Named → Named
joining (conjunction p q) left right = conjunction left right
joining (disjunction p q) left right = disjunction left right
joining (implication p q) left right = implication left right
joining (concatenation side p q) left right = concatenation side left right
joining (grove_sum p q) left right = grove_sum left right
joining (grove_sum_hole p q) left right = grove_sum_hole left right
joining (application h p q) left right = application h left right
joining (hole_adjoint p q) left right = hole_adjoint left right
joining (context_adjoint k p q) left right = context_adjoint k left right
joining p left right = p

-- with this one
abbrev pub over : Named → Named → Named
over (negation p) part = negation part
over (one_tree p) part = one_tree part
over (one_root p) part = one_root part
over p part = p
