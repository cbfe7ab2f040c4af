-- Needn't be believed: it divides the walk down two formulas in two. The formulas that speak of
-- data itself, which context logic (POPL 2005) adds to predicate logic.
use Rattle.std.specs.Prelude.{Bool, true, false}
use Rattle.model_formulas.specs.Formulas.{Named, truth, falsity, conjunction, disjunction, implication, negation, existential, universal, equality, at_most, value_meets}

-- neither a truth value, a connective, a quantifier, a comparison nor an `is`
abbrev pub is_structural : Named → Bool
is_structural truth = false
is_structural falsity = false
is_structural (conjunction p q) = false
is_structural (disjunction p q) = false
is_structural (implication p q) = false
is_structural (negation p) = false
is_structural (existential x p) = false
is_structural (universal x p) = false
is_structural (equality a b) = false
is_structural (at_most a b) = false
is_structural (value_meets s a p) = false
is_structural p = true
