use Rattle.model_round_trip.proofs.SameText.{same_text}
use Rattle.model_round_trip.proofs.lines_are_not_printed.Goals as goal

pub returns : goal.returns
returns c = same_text
