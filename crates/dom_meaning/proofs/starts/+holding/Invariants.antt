use Rattle.std.proofs.Common.{length}
use Rattle.dom_meaning.proofs.starts.+holding.Given as goal

abbrev pub decreases-holding : goal.decreases-holding
decreases-holding l = length l.variables.now
