use Rattle.std.proofs.Common.{length}
use Rattle.domcheck_core.proofs.watches.+with_values.Given as goal

abbrev pub decreases-with_values : goal.decreases-with_values
decreases-with_values l = length l.variables.now
