use Rattle.std.proofs.Common.{length}
use Rattle.dom_meaning.proofs.flow.+entered.Given as goal

abbrev pub decreases-entered : goal.decreases-entered
decreases-entered l = length l.params.now
