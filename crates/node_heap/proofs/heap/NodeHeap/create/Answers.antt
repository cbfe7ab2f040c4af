use Rattle.std.proofs.Common.{◌≡◌, ◌∙◌, ◌+◌, sym, ap, arith, inl, inr}
use Rattle.model_groves.specs.Sizes.{greatest_list, greatest_node}
use Rattle.model_shapes.specs.Trees.{Trees, root_uses}
use Rattle.model_heap.specs.Entries.{created}
use Rattle.model_heap.proofs.Greatest.{node_bound, list_bound}
use Rattle.node_heap.specs.HeapView.{HeapView}
use Rattle.node_heap.specs.Indexes.{greatest_of}
use Rattle.node_heap.specs.Heap.{grove_of, Linked}
use Rattle.model_groves.specs.Picks.{next_pick}
use Rattle.model_groves.proofs.NextPicks.{next-free}
use Rattle.model_shapes.specs.Trees.{WellFormed}
use Rattle.model_machine.proofs.Fine.{created-shaped}
use Rattle.node_heap.proofs.WellFormed.{shaped}
use Rattle.node_heap.proofs.Create.{linked_created}
use Rattle.node_heap.proofs.Ends.{node_greatest, list_greatest}
use Rattle.node_heap.proofs.Whole.{same_grove, linked_back}
use Rattle.node_heap.proofs.heap.NodeHeap.create.Goals as goal
use Rattle.node_heap.proofs.heap.NodeHeap.create.Goals.{After-push_reserved-2}

pub returns-then-node-clause-full : goal.returns-then-node-clause-full
returns-then-node-clause-full c =
    let g : Trees = grove_of c.self.inside.records c.self.inside.nodes.items in
    let n : c.greatest-node.result ≡ greatest_node c.args.self.now.grove = c.greatest-node.ensures
    ∙ ap greatest_of c.deref.ensures.value ∙ node_greatest c.self.inside.records
    c.self.inside.nodes.items c.self.inside.lists.items g c.self.invariant
    ∙ ap (λ (v : HeapView). greatest_node v.grove) c.self.view_is in
    let a : c.greatest-list.result ≡ greatest_list c.args.self.now.grove = c.greatest-list.ensures
    ∙ ap greatest_of c.deref-2.ensures.value ∙ list_greatest c.self.inside.records
    c.self.inside.nodes.items c.self.inside.lists.items g c.self.invariant
    ∙ ap (λ (v : HeapView). greatest_list v.grove) c.self.view_is in
    elim c.then-node.either [
      | inl w ↦ inl (sym n ∙ w)
      | inr w ↦ inr (sym a ∙ w.1)
    ]

node_is : (c : After-push_reserved-2) → c.greatest-node.result
    ≡ greatest_node (grove_of c.self.inside.records c.self.inside.nodes.items)
node_is c = c.greatest-node.ensures ∙ ap greatest_of c.deref.ensures.value
    ∙ node_greatest c.self.inside.records c.self.inside.nodes.items c.self.inside.lists.items _
    c.self.invariant

list_is : (c : After-push_reserved-2) → c.greatest-list.result
    ≡ greatest_list (grove_of c.self.inside.records c.self.inside.nodes.items)
list_is c = c.greatest-list.ensures ∙ ap greatest_of c.deref-2.ensures.value
    ∙ list_greatest c.self.inside.records c.self.inside.nodes.items c.self.inside.lists.items _
    c.self.invariant

abbrev grove : After-push_reserved-2 → Trees
grove c = grove_of c.self.inside.records c.self.inside.nodes.items

well : (c : After-push_reserved-2) → WellFormed
    (created c.args.name (c.greatest-node.result + 1) (c.greatest-list.result + 1) (grove c))
well c =
    let node : c.greatest-node.result + 1 ≡ (next_pick (grove c)).node = omega (arith, node_is c) in
    let list : c.greatest-list.result + 1 ≡ (next_pick (grove c)).list = omega (arith, list_is c) in
    rw (node, list) (created-shaped (next_pick (grove c)) c.args.name (grove c)
    (next-free (grove c)) (shaped (grove c) c.self.invariant.links.well_formed
    c.self.invariant.links.whole)).well_formed

after : (c : After-push_reserved-2) → Linked c.insert_reserved-key.new.self
    c.push_reserved.new.self.items c.push_reserved-2.new.self.items
    (created c.args.name (c.greatest-node.result + 1) (c.greatest-list.result + 1) (grove c))
after c =
    rw (c.push_reserved.ensures.items, c.push_reserved-2.ensures.items)
    (linked_created c.self.inside.records c.insert_reserved-key.new.self c.self.inside.nodes.items
    c.self.inside.lists.items (grove c) c.self.invariant (c.greatest-node.result + 1)
    (c.greatest-list.result + 1) c.insert_reserved-key.result c.args.name _
    (λ m h. omega (arith, node_is c, node_bound (grove c) m h))
    (λ m e h. omega (arith, list_is c, list_bound _ (grove c) m e h))
    c.insert_reserved-key.ensures.was_vacant c.insert_reserved-key.ensures.updates (well c)
    c.new.ensures
    c.insert_reserved-key.ensures.len)

pub invariant_of-self : goal.invariant_of-self
invariant_of-self c = linked_back c.insert_reserved-key.new.self c.push_reserved.new.self.items
    c.push_reserved-2.new.self.items _ (after c)

pub returns-clause-created : goal.returns-clause-created
returns-clause-created c = λ t.
    same_grove c.insert_reserved-key.new.self c.push_reserved.new.self.items
    c.push_reserved-2.new.self.items _ (after c) t
    ∙ ap (λ (v : HeapView). root_uses t (created c.args.name (c.greatest-node.result + 1)
    (c.greatest-list.result + 1) v.grove)) c.self.view_is

pub returns-clause-pick : goal.returns-clause-pick
returns-clause-pick c =
    let node : c.greatest-node.result + 1 ≡ (next_pick (grove c)).node = omega (arith, node_is c) in
    let list : c.greatest-list.result + 1 ≡ (next_pick (grove c)).list = omega (arith, list_is c) in
    rw (node, list) (ap (λ (v : HeapView). next_pick v.grove) c.self.view_is)

pub returns-clause-below : goal.returns-clause-below
returns-clause-below c =
    let node : c.greatest-node.result ≡ greatest_node c.args.self.now.grove =
    node_is c ∙ ap (λ (v : HeapView). greatest_node v.grove) c.self.view_is in
    let list : c.greatest-list.result ≡ greatest_list c.args.self.now.grove =
    list_is c ∙ ap (λ (v : HeapView). greatest_list v.grove) c.self.view_is in (
      omega (arith, node, c.if-node.false, c.greatest-node.type_inv),
      omega (arith, list, c.if-list.false, c.greatest-list.type_inv),
    )
