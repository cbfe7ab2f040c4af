use Rattle.triple_laws.proofs.Theories.{step-holds}
use Rattle.triple_laws.proofs.steps_are_sound.Goals as goal

pub returns : goal.returns
returns c = step-holds
