-- Needn't be believed: the program's promise doesn't speak of it. The faults and limits of the
-- definitions that those of the program stand for, and what an answer reports of a limit. Want of
-- memory is free.
use Rattle.std.specs.Prelude.{◌≡◌, Result, Ok, Err, Option, Some, None}
use Rattle.model_machine.specs.Machine as machine
use Rattle.model_limits.specs.Limits as limits
pub use Rattle.dom_terms.specs.Limits.{limit_kind_of}
use Rattle.dom_terms.specs.declared.limits.LimitKind.TheVariants as l
use Rattle.dom_terms.specs.declared.verdicts.EvalFault.{EvalFault}
use Rattle.dom_terms.specs.declared.verdicts.EvalFault.TheVariants as e
use Rattle.dom_meaning.specs.declared.faults.FaultKind.{FaultKind}
use Rattle.dom_meaning.specs.declared.faults.FaultKind.TheVariants as k
use Rattle.dom_meaning.specs.declared.faults.StepFault.{StepFault}
use Rattle.dom_meaning.specs.declared.faults.StepFault.TheVariants as s

-- the kind of the fault
abbrev pub fault_kind_of : FaultKind → machine.FaultKind
fault_kind_of k.NoNode = machine.no_node
fault_kind_of k.NoList = machine.no_list
fault_kind_of k.Cycle = machine.cycle
fault_kind_of k.NotChild = machine.not_child
fault_kind_of k.SelfRef = machine.self_ref

-- the fault of a term as that of a step
abbrev pub step_fault_of : EvalFault → StepFault
step_fault_of e.NumberRange = s.Limit l.Number
step_fault_of e.TextLimit = s.Limit l.Text
step_fault_of e.OutOfMemory = s.OutOfMemory

-- the fault is the limit that is passed
abbrev pub IsLimit : StepFault → Option limits.LimitKind → Type 0
IsLimit (s.Limit kind) limit = limit ≡ Some (limit_kind_of kind)
IsLimit s.OutOfMemory limit = Unit

-- an answer tells the limit: one where none is passed, and else the limit's fault
abbrev pub TellsLimit : {A : Type 0} → Result A StepFault → Option limits.LimitKind → Type 0
TellsLimit (Ok answer) limit = limit ≡ None
TellsLimit (Err fault) limit = IsLimit fault limit
