use Rattle.model_shapes.proofs.Reorders.{same-decided}
use Rattle.model_shapes.proofs.sameness_is_decided.Goals as goal

pub returns : goal.returns
returns c = same-decided
