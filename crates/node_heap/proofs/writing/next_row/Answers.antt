use Rattle.std.proofs.Common.{[]}
use Rattle.node_heap.proofs.Texts.{stack-last, on_ok_always}
use Rattle.node_heap.proofs.writing.next_row.Goals as goal

pub returns-in-Ok-clause-outer : goal.returns-in-Ok-clause-outer
returns-in-Ok-clause-outer c =
    rw (c.in-Ok.ensures.items, c.if-mark.true)
    (stack-last c.args.outer.now.items c.args.row [])

pub returns-clause-row : goal.returns-clause-row
returns-clause-row c = rw (c.if-mark.false, ← c.row_above-above.ensures.row) c.closed.ensures

pub returns-clause-outer : goal.returns-clause-outer
returns-clause-outer c =
    on_ok_always c.closed.result (rw c.if-mark.false c.row_above-above.ensures.outer)
