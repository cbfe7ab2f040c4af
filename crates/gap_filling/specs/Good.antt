-- Needn't be believed: the definition of usable offers has the same in other words. Steps that are
-- well formed in the file and instances over those before them, step by step.
use Rattle.std.specs.Prelude.{◌≡◌, List, [], ◌∷◌, ◌++◌, None, map}
use Rattle.model_formulas.specs.Formulas.{Named}
use Rattle.model_commands.specs.Theories.{StepOf, ProcedureOf, Theory, procedures_of, nameless_step, nameless_judgement}
use Rattle.model_files.specs.FileFaults.{step_kind}
use Rattle.rule_table.specs.Accepted.{InstanceBy}

-- a step is well formed in the file, at the place of the procedure's proof that its number says
unfoldable pub IsFormed : Theory → ProcedureOf Named → StepOf Named → Type 0
IsFormed theory f step = step_kind theory f step.number step ≡ None

module _ (theory : Theory) (f : ProcedureOf Named) where
  -- a step after these
  abbrev pub IsGood : List (StepOf Named) → StepOf Named → Type 0
  IsGood earlier step =
      IsFormed theory f step
      × InstanceBy (procedures_of theory) step.reason (map nameless_step earlier)
      (nameless_judgement step.judgement)

  -- some steps after these
  abbrev pub AreGood : List (StepOf Named) → List (StepOf Named) → Type 0
  AreGood earlier [] = Unit
  AreGood earlier (step ∷ steps) = IsGood earlier step × AreGood (earlier ++ step ∷ []) steps
