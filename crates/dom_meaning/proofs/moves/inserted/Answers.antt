use Rattle.std.proofs.Common.{◌≡◌, ◌∙◌, sym, ap, subst, option_copied}
use Rattle.model_shapes.specs.Values.{node_number}
use Rattle.model_terms.specs.Stores.{value_of}
use Rattle.model_groves.specs.Groves.{node_at}
use Rattle.model_machine.specs.Machine.{inserting_at}
use Rattle.grove_data.specs.Finding.{number_or_null}
use Rattle.dom_terms.specs.Stores.{store_of}
use Rattle.dom_terms.specs.Terms.{term_of}
use Rattle.dom_terms.specs.Values.{value_seen}
use Rattle.dom_meaning.specs.declared.effects.Effect.TheVariants.{Fault}
use Rattle.dom_meaning.specs.declared.faults.FaultKind.{FaultKind}
use Rattle.dom_meaning.specs.Effects.{Comes, next_value}
use Rattle.dom_meaning.proofs.MoveLaws.{moved_comes, fault_comes}
use Rattle.dom_meaning.proofs.moves.inserted.Goals as goal

pub returns-in-Ok-insert_child-clause-comes : goal.returns-in-Ok-insert_child-clause-comes
returns-in-Ok-insert_child-clause-comes g c = λ piece.
    let grove = g.D.Document.grove c.args.document.now in
    let store = store_of c.args.store.now in
    let parent : node_number c.in-Node.parent ≡ value_of store (term_of c.args.parent.now) =
    sym (ap value_seen c.in-Node.is) ∙ c.in_ok-parent.ensures.value in
    let child : node_number c.in-Node-child.child ≡ value_of store (term_of c.args.child.now) =
    sym (ap value_seen c.in-Node-child.is) ∙ c.in_ok-child.ensures.value in
    let next : number_or_null c.in_ok-next.next ≡ next_value store (option_copied c.args.next) =
    c.in_ok-next.ensures.number in
    moved_comes (g.D.Document.StandsFor c.insert_child.new.self) _ _
    (λ i. inserting_at (next i) (node_at (parent i) grove) (node_at (child i) grove) store grove)
    store piece c.in-Node-child.child c.in-Ok.from c.in-Node.parent c.in_ok-next.next
    (c.in-Ok-insert_child.ensures store)

pub returns-in-Err-Fault-clause-comes : goal.returns-in-Err-Fault-clause-comes
returns-in-Err-Fault-clause-comes g c = λ piece.
    let grove = g.D.Document.grove c.args.document.now in
    let store = store_of c.args.store.now in
    let parent : node_number c.in-Node.parent ≡ value_of store (term_of c.args.parent.now) =
    sym (ap value_seen c.in-Node.is) ∙ c.in_ok-parent.ensures.value in
    let child : node_number c.in-Node-child.child ≡ value_of store (term_of c.args.child.now) =
    sym (ap value_seen c.in-Node-child.is) ∙ c.in_ok-child.ensures.value in
    let next : number_or_null c.in_ok-next.next ≡ next_value store (option_copied c.args.next) =
    c.in_ok-next.ensures.number in
    let leaves = g.D.Document.StandsFor c.insert_child.new.self in
    let move = inserting_at (next_value store (option_copied c.args.next))
    (node_at (value_of store (term_of c.args.parent.now)) grove)
    (node_at (value_of store (term_of c.args.child.now)) grove) store grove in
    subst (λ (z : FaultKind). Comes leaves move piece store (Fault z)) (sym c.in-Err-Fault.kind-is)
    (fault_comes leaves _ move
    (λ i. inserting_at (next i) (node_at (parent i) grove) (node_at (child i) grove) store grove)
    store piece c.in-Err-Fault.kind (g.D.Document.grove c.insert_child.new.self)
    (g.met.D.Document.stands c.insert_child.new.self)
    (rw c.in-Err-Fault.field-0-is at c.in-Err-Fault.ensures store).0)

pub returns-in-Err-Fault-clause-kept : goal.returns-in-Err-Fault-clause-kept
returns-in-Err-Fault-clause-kept g c =
    (tt, (rw c.in-Err-Fault.field-0-is at c.in-Err-Fault.ensures (store_of c.args.store.now)).1)

pub returns-in-Err-OutOfMemory-clause-kept : goal.returns-in-Err-OutOfMemory-clause-kept
returns-in-Err-OutOfMemory-clause-kept g c = (
  tt,
  (rw c.in-Err-OutOfMemory.field-0-is at c.in-Err-OutOfMemory.ensures
      (store_of c.args.store.now)),
)
