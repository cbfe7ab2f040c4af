use Rattle.std.proofs.Common.{◌+◌, ◌-◌, length}
use Rattle.model_heap.specs.Entries.{rows_of, kids_of}
use Rattle.dom_watch.proofs.Laying.{Following}
use Rattle.dom_watch.proofs.table.lay.Given as goal

abbrev pub invariant-loop-child : goal.invariant-loop-child
invariant-loop-child l =
    Following l.heap.grove l.row.number l.initial.rows.items l.rows.items l.child

abbrev pub decreases-loop-child : goal.decreases-loop-child
decreases-loop-child l =
    length l.initial.rows.items + length (kids_of (rows_of l.heap.grove l.row.number))
    - length l.rows.items
