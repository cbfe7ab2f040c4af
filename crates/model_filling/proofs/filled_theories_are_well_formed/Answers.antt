use Rattle.model_filling.proofs.WellFormed.{filled-formed}
use Rattle.model_filling.proofs.filled_theories_are_well_formed.Goals as goal

pub returns : goal.returns
returns c = filled-formed
