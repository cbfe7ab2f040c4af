use Rattle.model_machine.proofs.Unmodified.{unmodified}
use Rattle.model_machine.proofs.unmodified_variables_stay.Goals as goal

pub returns : goal.returns
returns c = unmodified
