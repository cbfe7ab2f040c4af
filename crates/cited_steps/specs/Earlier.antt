-- Needn't be believed: the program's promise doesn't speak of it. The earlier steps of a proof: as
-- the definitions have them, and what is asked of them where one is cited.
use Rattle.std.specs.Prelude.{◌≡◌, ℕ, ◌+◌, ◌==◌, Bool, true, ◌&&◌, cond, List, [], ◌∷◌, Option, Some, None, map}
use Rattle.model_formulas.specs.Formulas.{Named}
use Rattle.model_commands.specs.Theories as model
use Rattle.model_files.specs.Sizes.{StepsAreSmall}
use Rattle.theory_syntax.specs.declared.steps.Step.{Step}
use Rattle.theory_syntax.specs.Judgements.{step_of}

-- the steps, without the names of bound variables
abbrev pub steps_in : List Step → List model.Step
steps_in steps = map model.nameless_step (map step_of steps)

-- the judgement of the first step with the number, as it is written
abbrev pub written_judgement : ℕ → List (model.StepOf Named) → Option (model.JudgementOf Named)
written_judgement n [] = None
written_judgement n (step ∷ steps) =
    cond (step.number == n) (Some step.judgement) (written_judgement n steps)

-- the steps are numbered from this number on
abbrev pub are_numbered : ℕ → List Step → Bool
are_numbered n [] = true
are_numbered n (step ∷ steps) = (step.number == n) && are_numbered (n + 1) steps

-- the formulas are small, and the steps are numbered from 1
pub record AreCitable (steps : List Step) : Type 0 where
  pub small : StepsAreSmall (map step_of steps)
  pub in_order : are_numbered 1 steps ≡ true
