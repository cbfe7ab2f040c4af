use Rattle.model_groves.proofs.NextPicks.{next-free}
use Rattle.model_groves.proofs.next_picks_are_free.Goals as goal

pub returns : goal.returns
returns c = next-free
