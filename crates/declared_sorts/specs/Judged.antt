-- Needn't be believed: the promises speak of the first fault of a file. What is judged: the
-- formulas of a header and of each step may be judged at their sorts.
use Rattle.std.specs.Prelude.{Bool, ◌&&◌, List, is_none, not}
use Rattle.std.specs.List.{list_all, position_from}
use Rattle.model_shapes.specs.Sorts.{shape}
use Rattle.model_formulas.specs.Formulas.{Named}
use Rattle.model_commands.specs.Theories.{ProcedureOf, StepOf, Theory}
use Rattle.model_files.specs.FileFaults.{is_judged_at, judgement_sorted}

-- none of these flags is that of a part at fault
abbrev pub none_fails : List Bool → Bool
none_fails flags = is_none (position_from not 0 flags)

-- the requires and the ensures of a procedure
abbrev pub head_judged : ProcedureOf Named → Bool
head_judged f = is_judged_at (shape f.sort) f.pre && is_judged_at (shape f.sort) f.post

-- the formulas of each step of a proof
abbrev pub steps_judged : List (StepOf Named) → Bool
steps_judged steps = list_all (λ step. judgement_sorted step.judgement) steps

-- those of a procedure
abbrev pub procedure_judged : ProcedureOf Named → Bool
procedure_judged f = head_judged f && steps_judged f.proof

-- those of a theory
abbrev pub theory_judged : Theory → Bool
theory_judged theory = list_all procedure_judged theory.procedures
