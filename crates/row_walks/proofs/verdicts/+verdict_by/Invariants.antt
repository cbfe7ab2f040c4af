-- The rows get fewer.
use Rattle.std.proofs.Common.{length}
use Rattle.row_walks.proofs.verdicts.+verdict_by.Given as goal

abbrev pub decreases-verdict_by : goal.decreases-verdict_by
decreases-verdict_by l = length l.rows.now
