use Rattle.model_machine.proofs.Blocks.{one-after-the-other}
use Rattle.model_machine.proofs.one_after_the_other.Goals as goal

pub returns : goal.returns
returns c = one-after-the-other
