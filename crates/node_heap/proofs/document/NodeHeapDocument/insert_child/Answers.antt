use Rattle.model_shapes.specs.Values.{node_number}
use Rattle.model_groves.specs.Groves.{node_at}
use Rattle.model_machine.specs.Machine.{inserting_at}
use Rattle.grove_data.specs.Finding.{number_or_null}
use Rattle.node_heap.proofs.DocumentMoves.{was_inserted, was_fault}
use Rattle.node_heap.proofs.document.NodeHeapDocument.insert_child.Goals as goal

pub returns-in-Ok : goal.returns-in-Ok
returns-in-Ok c = λ store.
    let grove = c.args.self.now.grove in
    was_inserted (number_or_null c.args.next) (node_at (node_number c.args.parent) grove)
    (node_at (node_number c.args.child) grove) store grove tt c.args.self.now
    c.insert_before.new.self (c.in-Ok.ensures store)

pub returns-in-Err : goal.returns-in-Err
returns-in-Err c = λ store.
    let grove = c.args.self.now.grove in
    was_fault Unit (inserting_at (number_or_null c.args.next)
    (node_at (node_number c.args.parent) grove) (node_at (node_number c.args.child) grove) store
    grove) c.in-Err.kind c.args.self.now c.insert_before.new.self (c.in-Err.ensures store)
