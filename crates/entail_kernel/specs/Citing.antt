-- Needn't be believed: what an earlier step says, where it is an entailment.
use Rattle.std.specs.Prelude.{◌≡◌, ℕ, Bool, true, false, List, Option, Some, None}
use Rattle.model_commands.specs.Theories.{Judgement, entails, triple}
use Rattle.rule_table.specs.Accepted.{judgement_numbered}
use Rattle.theory_syntax.specs.declared.steps.Step.{Step}
use Rattle.entail_rules.specs.Judged.{judged}
use Rattle.entail_rules.specs.declared.cited.Premise.{Premise}
use Rattle.cited_steps.specs.Earlier.{steps_in}

abbrev pub is_entailment : Judgement → Bool
is_entailment (entails p q s) = true
is_entailment (triple p c q d) = false

-- the earlier step of the number is this entailment; or there is none, or it is another judgement
abbrev pub CitesOne : ℕ → List Step → Option Premise → Type 0
CitesOne number earlier (Some a) =
    judgement_numbered number (steps_in earlier) ≡ Some (judged a.entailment.now)
CitesOne number earlier None = (j : Judgement)
    → judgement_numbered number (steps_in earlier) ≡ Some j → is_entailment j ≡ false
