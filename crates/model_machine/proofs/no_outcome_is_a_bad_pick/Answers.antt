use Rattle.model_machine.proofs.NextMoves.{outcome-picks}
use Rattle.model_machine.proofs.no_outcome_is_a_bad_pick.Goals as goal

pub returns : goal.returns
returns c = outcome-picks
