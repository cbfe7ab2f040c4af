use Rattle.model_text.proofs.Steps.{enough}
use Rattle.model_text.proofs.enough_steps.Goals as goal

pub returns : goal.returns
returns c = enough
