-- The bytes get fewer.
use Rattle.std.proofs.Common.{length}
use Rattle.dom_terms.proofs.same.+same_bytes.Given as goal

abbrev pub decreases-same_bytes : goal.decreases-same_bytes
decreases-same_bytes l = length l.left.now
