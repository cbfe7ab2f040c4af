use Rattle.model_machine.proofs.Pending.{pending-part, fault-part}
use Rattle.model_machine.proofs.what_runs_stands_in_a_body.Goals as goal

pub returns-clause-pending : goal.returns-clause-pending
returns-clause-pending c = pending-part

pub returns-clause-fault : goal.returns-clause-fault
returns-clause-fault c = fault-part
