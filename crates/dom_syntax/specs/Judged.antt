-- Needn't be believed: the promises speak of the sorts of formulas by the definition of file
-- faults. What is told of the formulas of headers and of steps: that they may be judged at their
-- sorts.
use Rattle.std.specs.Prelude.{◌≡◌, Bool, true}
use Rattle.std.specs.Bool.{OnTrue}
use Rattle.model_formulas.specs.Formulas.{Named}
use Rattle.model_commands.specs.Theories.{ProcedureOf, StepOf, TheoryOf}
use Rattle.model_files.specs.FileFaults.{judgement_sorted}
use Rattle.declared_sorts.specs.Judged.{head_judged, steps_judged, procedure_judged, theory_judged}

-- where it is told so, those of the step may
abbrev pub StepJudged : Bool → StepOf Named → Type 0
StepJudged told step = OnTrue told (judgement_sorted step.judgement ≡ true)

-- where it is told so, those of the header of the procedure may
abbrev pub HeadJudged : Bool → ProcedureOf Named → Type 0
HeadJudged told f = OnTrue told (head_judged f ≡ true)

-- where it is told so, those of each step of the procedure may
abbrev pub StepsJudged : Bool → ProcedureOf Named → Type 0
StepsJudged told f = OnTrue told (steps_judged f.proof ≡ true)

-- where it is told so, those of the header and of each step of the procedure may
abbrev pub ProcedureJudged : Bool → ProcedureOf Named → Type 0
ProcedureJudged told f = OnTrue told (procedure_judged f ≡ true)

-- where it is told so, those of each header and of each step of the theory may
abbrev pub TheoryJudged : Bool → TheoryOf Named → Type 0
TheoryJudged told theory = OnTrue told (theory_judged theory ≡ true)
