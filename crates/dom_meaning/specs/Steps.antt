-- Needn't be believed: the program's promise doesn't speak of it. What one step answers, as that of
-- the machine of the definitions.
use Rattle.model_machine.specs.Machine as model
use Rattle.dom_meaning.specs.declared.steps.StepOut.{StepOut}
use Rattle.dom_meaning.specs.declared.steps.StepOut.TheVariants as o
use Rattle.dom_meaning.specs.Faults.{fault_kind_of}

-- the answer, where the step leaves this configuration
abbrev pub answer_of : StepOut → model.Config → model.StepOut
answer_of o.Next after = model.next after
answer_of o.Done after = model.done
answer_of (o.Fault kind) after = model.at_fault (fault_kind_of kind)
answer_of o.BadPick after = model.at_bad_pick
