use Rattle.std.proofs.Common.{◌≡◌, ◌∙◌, sym, ap}
use Rattle.model_shapes.specs.Values.{node_number}
use Rattle.model_terms.specs.Stores.{value_of}
use Rattle.model_groves.specs.Groves.{node_at}
use Rattle.model_machine.specs.Machine.{removing}
use Rattle.dom_terms.specs.Stores.{store_of}
use Rattle.dom_terms.specs.Terms.{term_of}
use Rattle.dom_terms.specs.Values.{value_seen}
use Rattle.dom_meaning.proofs.MoveLaws.{removed_comes, fault_comes}
use Rattle.dom_meaning.proofs.moves.removed.Goals as goal

pub returns-in-Ok-clause-comes : goal.returns-in-Ok-clause-comes
returns-in-Ok-clause-comes g c = λ piece.
    let grove = g.D.Document.grove c.args.document.now in
    let store = store_of c.args.store.now in
    let parent : node_number c.in-Node.parent ≡ value_of store (term_of c.args.parent.now) =
    sym (ap value_seen c.in-Node.is) ∙ c.in_ok-parent.ensures.value in
    let child : node_number c.in-Node-child.child ≡ value_of store (term_of c.args.child.now) =
    sym (ap value_seen c.in-Node-child.is) ∙ c.in_ok-child.ensures.value in
    removed_comes (g.D.Document.StandsFor c.remove_child.new.self) _ _
    (λ i. removing (node_at (parent i) grove) (node_at (child i) grove) store grove)
    store piece c.in-Node-child.child c.in-Node.parent (c.in-Ok.ensures store)

pub returns-in-Err-Fault-clause-comes : goal.returns-in-Err-Fault-clause-comes
returns-in-Err-Fault-clause-comes g c = λ piece.
    let grove = g.D.Document.grove c.args.document.now in
    let store = store_of c.args.store.now in
    let parent : node_number c.in-Node.parent ≡ value_of store (term_of c.args.parent.now) =
    sym (ap value_seen c.in-Node.is) ∙ c.in_ok-parent.ensures.value in
    let child : node_number c.in-Node-child.child ≡ value_of store (term_of c.args.child.now) =
    sym (ap value_seen c.in-Node-child.is) ∙ c.in_ok-child.ensures.value in
    let leaves = g.D.Document.StandsFor c.remove_child.new.self in
    let move = removing (node_at (value_of store (term_of c.args.parent.now)) grove)
    (node_at (value_of store (term_of c.args.child.now)) grove) store grove in
    fault_comes leaves _ move
    (λ i. removing (node_at (parent i) grove) (node_at (child i) grove) store grove)
    store piece c.in-Err-Fault.kind (g.D.Document.grove c.remove_child.new.self)
    (g.met.D.Document.stands c.remove_child.new.self)
    (rw c.in-Err-Fault.field-0-is at c.in-Err-Fault.ensures store).0

pub returns-in-Err-Fault-clause-kept : goal.returns-in-Err-Fault-clause-kept
returns-in-Err-Fault-clause-kept g c =
    (tt, (rw c.in-Err-Fault.field-0-is at c.in-Err-Fault.ensures (store_of c.args.store.now)).1)

pub returns-in-Err-OutOfMemory-clause-kept : goal.returns-in-Err-OutOfMemory-clause-kept
returns-in-Err-OutOfMemory-clause-kept g c = (
  tt,
  (rw c.in-Err-OutOfMemory.field-0-is at c.in-Err-OutOfMemory.ensures
      (store_of c.args.store.now)),
)
