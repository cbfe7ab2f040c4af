-- Needn't be believed: the program's promise doesn't speak of it. The kinds of file faults that
-- those of the program stand for, and what an answer of the checks of a theory reports: the fault
-- that there is, with its place and its kind. Want of memory is free.
use Rattle.std.specs.Prelude.{◌≡◌, ℕ, Result, Ok, Err, Option, Some, None}
use Rattle.model_files.specs.FileFaults as model
use Rattle.dom_syntax.specs.declared.kinds.FileKind.{FileKind}
use Rattle.dom_syntax.specs.declared.kinds.FileKind.TheVariants as k
use Rattle.dom_syntax.specs.declared.programs.ProgramFault.{ProgramFault}
use Rattle.dom_syntax.specs.declared.programs.ProgramFault.TheVariants as f

-- the kind
abbrev pub kind_of : FileKind → model.FileKind
kind_of k.Version = model.version_kind
kind_of k.Twice = model.twice_kind
kind_of k.Unknown = model.unknown_kind
kind_of k.Sort = model.sort_kind
kind_of k.Constant = model.constant_kind
kind_of k.Results = model.results_kind
kind_of k.Scope = model.scope_kind
kind_of k.Rule = model.rule_kind
kind_of k.Number = model.number_kind

-- the fault with this place and this kind
abbrev pub fault_at : ℕ → ℕ → FileKind → model.FileFault
fault_at procedure step kind =
    record { procedure = procedure; step = step; kind = kind_of kind }

-- the fault is the one that is reported
abbrev pub FaultReports : ProgramFault → Option model.FileFault → Type 0
FaultReports (f.BadProgram procedure step kind) fault = fault ≡ Some (fault_at procedure step kind)
FaultReports f.OutOfMemory fault = Unit

-- an answer reports a fault: none where there is none
abbrev pub Reports : {A : Type 0} → Result A ProgramFault → Option model.FileFault → Type 0
Reports (Ok value) fault = fault ≡ None
Reports (Err refusal) fault = FaultReports refusal fault

-- the fault of this kind at a step of a procedure, if there is a kind
abbrev pub step_fault : ℕ → ℕ → Option model.FileKind → Option model.FileFault
step_fault procedure step None = None
step_fault procedure step (Some kind) =
    Some (record { procedure = procedure; step = step; kind = kind })
