-- Needn't be believed: formulas whose outermost binders bind variables of their sorts, as in all
-- that is written with names. What stands below any other binder is no letter closed over $x.
use Rattle.model_formulas.specs.Formulas.{Formula, conjunction, disjunction, implication, negation, existential, universal, node_formula, one_tree, one_root, concatenation, grove_sum, grove_sum_hole, application, hole_adjoint, context_adjoint, value_meets}
use Rattle.model_commands.specs.Theories.{Judgement, entails}
use Rattle.letter_bindings.specs.Choices.{IsBody}

-- the outermost binders
abbrev pub BindsSorted : Formula → Type 0
BindsSorted (existential s p) = IsBody s p
BindsSorted (universal s p) = IsBody s p
BindsSorted (conjunction p q) = BindsSorted p × BindsSorted q
BindsSorted (disjunction p q) = BindsSorted p × BindsSorted q
BindsSorted (implication p q) = BindsSorted p × BindsSorted q
BindsSorted (negation p) = BindsSorted p
BindsSorted (node_formula a b p c) = BindsSorted p
BindsSorted (one_tree p) = BindsSorted p
BindsSorted (one_root p) = BindsSorted p
BindsSorted (concatenation d p q) = BindsSorted p × BindsSorted q
BindsSorted (grove_sum p q) = BindsSorted p × BindsSorted q
BindsSorted (grove_sum_hole p q) = BindsSorted p × BindsSorted q
BindsSorted (application h p q) = BindsSorted p × BindsSorted q
BindsSorted (hole_adjoint p q) = BindsSorted p × BindsSorted q
BindsSorted (context_adjoint h p q) = BindsSorted p × BindsSorted q
BindsSorted (value_meets s a p) = BindsSorted p
BindsSorted p = Unit {0}

-- of an entailment
abbrev pub JudgementSorted : Judgement → Type 0
JudgementSorted (entails p q s) = BindsSorted p × BindsSorted q
JudgementSorted j = Unit {0}
