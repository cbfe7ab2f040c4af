use Rattle.model_machine.proofs.Unchanged.{unchanged}
use Rattle.model_machine.proofs.steps_without_a_change_leave_the_grove.Goals as goal

pub returns : goal.returns
returns c = unchanged
