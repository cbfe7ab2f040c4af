use Rattle.model_shapes.proofs.Reorders.{same-reordered, reordered-same}
use Rattle.model_shapes.proofs.same_groves_are_reordered.Goals as goal

pub returns : goal.returns
returns c = λ a b. (same-reordered a b, reordered-same)
