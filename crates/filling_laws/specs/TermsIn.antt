-- Needn't be believed: the program's promise doesn't speak of it. The terms of a formula and of an
-- entailment, from left to right.
use Rattle.std.specs.Prelude.{List, [], ◌∷◌, ◌++◌}
use Rattle.model_terms.specs.Terms.{Term}
use Rattle.model_formulas.specs.Formulas.{Named}
use Rattle.model_formulas.specs.Substitution.{gathered}
use Rattle.model_commands.specs.Theories.{JudgementOf, entails, triple}

-- of a formula
abbrev pub terms_in : Named → List Term
terms_in = gathered [] ◌++◌ (λ a. a ∷ []) (λ x inside. inside)

-- of both sides of an entailment
abbrev pub terms_of_sides : JudgementOf Named → List Term
terms_of_sides (entails p q s) = terms_in p ++ terms_in q
terms_of_sides (triple p c q k) = []
