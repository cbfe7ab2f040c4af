-- Which offers may stand in the place of a gap.
use Rattle.std.specs.Prelude.{◌≡◌, ℕ, List, Some, None, map}
use Rattle.model_formulas.specs.Formulas.{Named}
use Rattle.model_commands.specs.Each.{Each}
use Rattle.model_commands.specs.Theories.{JudgementOf, StepOf, ProcedureOf, Theory, procedures_of, nameless_step, nameless_judgement}
use Rattle.model_files.specs.FileFaults.{step_kind}
use Rattle.rule_table.specs.Accepted.{AllInstances, last_judgement}
use Rattle.model_filling.specs.Offers.{IsNumberedFrom}
use Rattle.model_filling.specs.Sizes.{IsSized}

-- USABLE for a gap of this number and judgement, after these earlier steps of the procedure's
-- proof: of the right sizes and numbers; each step well formed in the file, and an instance over
-- those before it, so that none is a gap; and the last one has the judgement, up to the names of
-- bound variables
pub record IsUsable (theory : Theory) (f : ProcedureOf Named) (earlier : List (StepOf Named))
    (number : ℕ) (judgement : JudgementOf Named) (steps : List (StepOf Named)) : Type 0 where
  pub sized : IsSized theory.version steps
  pub numbered : IsNumberedFrom number steps
  pub formed : Each (λ step. step_kind theory f step.number step ≡ None) steps
  pub instances : AllInstances (procedures_of theory) (map nameless_step earlier)
      (map nameless_step steps)
  pub ends : last_judgement (map nameless_step steps) ≡ Some (nameless_judgement judgement)
