use Rattle.node_heap.proofs.Leaves.{kids_put}
use Rattle.node_heap.proofs.writing.put_below.Goals as goal

pub returns-in-Some : goal.returns-in-Some
returns-in-Some c = λ node trees ends.
    kids_put node trees c.args.row.now c.args.kids c.in-Some.last.now ends
    c.in-Some.ensures.item.1
