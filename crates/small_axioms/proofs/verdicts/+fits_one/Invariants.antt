-- The rows get fewer.
use Rattle.std.proofs.Common.{length}
use Rattle.small_axioms.proofs.verdicts.+fits_one.Given as goal

abbrev pub decreases-fits_one : goal.decreases-fits_one
decreases-fits_one l = length l.rows.now
