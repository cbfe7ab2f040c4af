use Rattle.model_shapes.proofs.Basics.{fill-fill}
use Rattle.model_shapes.proofs.fill_composed.Goals as goal

pub returns : goal.returns
returns c = fill-fill
