use Rattle.model_shapes.specs.Values.{node_number}
use Rattle.model_groves.specs.Groves.{node_at}
use Rattle.model_machine.specs.Machine.{removing}
use Rattle.node_heap.proofs.DocumentMoves.{was_removed, was_fault}
use Rattle.node_heap.proofs.document.NodeHeapDocument.remove_child.Goals as goal

pub returns-in-Ok : goal.returns-in-Ok
returns-in-Ok c = λ store.
    let grove = c.args.self.now.grove in
    was_removed (node_at (node_number c.args.parent) grove)
    (node_at (node_number c.args.child) grove) store grove tt c.args.self.now c.remove.new.self
    (c.in-Ok.ensures store)

pub returns-in-Err : goal.returns-in-Err
returns-in-Err c = λ store.
    let grove = c.args.self.now.grove in
    was_fault Unit (removing (node_at (node_number c.args.parent) grove)
    (node_at (node_number c.args.child) grove) store grove) c.in-Err.kind c.args.self.now
    c.remove.new.self (c.in-Err.ensures store)
