use Rattle.std.proofs.Common.{length}
use Rattle.dom_meaning.proofs.flow.+with_results.Given as goal

abbrev pub decreases-with_results : goal.decreases-with_results
decreases-with_results l = length l.results.now
