use Rattle.model_formulas.proofs.Closed.{closed}
use Rattle.model_formulas.proofs.same_meet_the_same.Goals as goal

pub returns : goal.returns
returns c = closed
