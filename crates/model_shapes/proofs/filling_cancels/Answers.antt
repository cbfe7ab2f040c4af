use Rattle.model_shapes.proofs.Cancelling.{cancel}
use Rattle.model_shapes.proofs.filling_cancels.Goals as goal

pub returns : goal.returns
returns c = λ h k o a b w wa e. cancel h k o a b w.holes_fit wa.width_fits e
