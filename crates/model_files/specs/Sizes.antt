-- Needn't be believed: the program's promise doesn't speak of it. The sizes that every call may
-- count on: no formula of a theory has as many parts as a number of 32 bits can count, and no
-- theory as many procedures and proof steps.
use Rattle.std.specs.Prelude.{◌<◌, ◌+◌, length, List}
use Rattle.model_formulas.specs.Formulas.{Named}
use Rattle.model_formulas.specs.Parts.{parts}
use Rattle.model_commands.specs.Theories.{JudgementOf, entails, triple, StepOf, ProcedureOf, Theory}
use Rattle.model_commands.specs.Each.{Each}
use Rattle.model_files.specs.FileLimits.{step_count}

-- a formula has fewer than 4,294,967,295 parts
abbrev pub IsSmall : Named → Type 0
IsSmall formula = parts formula < 4294967295

-- so have those of a judgement, of the steps of a proof, and of procedures
abbrev pub JudgementIsSmall : JudgementOf Named → Type 0
JudgementIsSmall (entails p q s) = IsSmall p × IsSmall q
JudgementIsSmall (triple p c q d) = IsSmall p × IsSmall q

abbrev pub StepsAreSmall : List (StepOf Named) → Type 0
StepsAreSmall = Each (λ (step : StepOf Named). JudgementIsSmall step.judgement)

abbrev pub ProcedureIsSmall : ProcedureOf Named → Type 0
ProcedureIsSmall f = IsSmall f.pre × IsSmall f.post × StepsAreSmall f.proof

abbrev pub ProceduresAreSmall : List (ProcedureOf Named) → Type 0
ProceduresAreSmall = Each ProcedureIsSmall

-- and so have those of a theory, whose procedures and proof steps together are fewer too
abbrev pub TheoryIsSmall : Theory → Type 0
TheoryIsSmall theory =
    ProceduresAreSmall theory.procedures
    × (length theory.procedures + step_count theory.procedures < 4294967295)
