use Rattle.model_shapes.proofs.Shapes.{same-Shaped-at}
use Rattle.model_shapes.proofs.the_same_has_the_sort.Goals as goal

pub returns : goal.returns
returns c = same-Shaped-at
