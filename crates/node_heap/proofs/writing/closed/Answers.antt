use Rattle.node_heap.proofs.writing.closed.Goals as goal

pub returns-in-Ok : goal.returns-in-Ok
returns-in-Ok c = c.put_below.ensures c.args.node.now c.args.row c.in-Ok.ensures
