use Rattle.model_shapes.proofs.Pulling.{pull_root, pulled-same}
use Rattle.model_shapes.proofs.what_stands_inside_is_computed.Goals as goal

pub returns : goal.returns
returns c = λ h o w. (pull_root o, λ g b wb e. pulled-same h o g b w wb e)
