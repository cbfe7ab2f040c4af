use Rattle.model_machine.proofs.Plain.{plainly}
use Rattle.model_machine.proofs.ends_plainly.Goals as goal

pub returns : goal.returns
returns c = plainly
