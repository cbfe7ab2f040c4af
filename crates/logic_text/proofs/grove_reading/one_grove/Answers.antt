use Rattle.logic_text.proofs.Exact.{at_most_one}
use Rattle.logic_text.proofs.grove_reading.one_grove.Goals as goal

pub returns : goal.returns
returns c = at_most_one
