use Rattle.std.proofs.Common.{◌-◌}
use Rattle.model_groves.specs.Sizes.{size}
use Rattle.dom_watch.proofs.Laying.{Laid}
use Rattle.dom_watch.proofs.table.table_of.Given as goal

abbrev pub invariant-loop-place : goal.invariant-loop-place
invariant-loop-place l = Laid l.heap.grove l.roots l.rows.items l.place

abbrev pub decreases-loop-place : goal.decreases-loop-place
decreases-loop-place l = size l.heap.grove - l.place
