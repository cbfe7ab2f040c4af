use Rattle.std.proofs.Common.{◌≡◌, ◌∙◌, ◌+◌, sym, ap, arith, inl, inr}
use Rattle.model_groves.specs.Sizes.{greatest_list, greatest_node}
use Rattle.model_groves.specs.Picks.{next_pick}
use Rattle.model_shapes.specs.Trees.{Trees}
use Rattle.node_heap.specs.HeapView.{HeapView}
use Rattle.node_heap.specs.Indexes.{greatest_of}
use Rattle.node_heap.specs.Heap.{grove_of}
use Rattle.node_heap.proofs.Ends.{node_greatest, list_greatest}
use Rattle.node_heap.proofs.heap.NodeHeap.next_numbers.Goals as goal

pub returns-then-node : goal.returns-then-node
returns-then-node c =
    let g : Trees = grove_of c.self.inside.records c.self.inside.nodes.items in
    let n : c.greatest-node.result ≡ greatest_node c.args.self.now.grove = c.greatest-node.ensures
    ∙ ap greatest_of c.deref.ensures.value ∙ node_greatest c.self.inside.records
    c.self.inside.nodes.items c.self.inside.lists.items g c.self.invariant
    ∙ ap (λ (v : HeapView). greatest_node v.grove) c.self.view_is in
    let a : c.greatest-list.result ≡ greatest_list c.args.self.now.grove = c.greatest-list.ensures
    ∙ ap greatest_of c.deref-2.ensures.value ∙ list_greatest c.self.inside.records
    c.self.inside.nodes.items c.self.inside.lists.items g c.self.invariant
    ∙ ap (λ (v : HeapView). greatest_list v.grove) c.self.view_is in
    elim c.then-node.either [
      | inl w ↦ inl (sym n ∙ w)
      | inr w ↦ inr (sym a ∙ w.1)
    ]

pub returns : goal.returns
returns c =
    let g : Trees = grove_of c.self.inside.records c.self.inside.nodes.items in
    let n : c.greatest-node.result ≡ greatest_node c.args.self.now.grove = c.greatest-node.ensures
    ∙ ap greatest_of c.deref.ensures.value ∙ node_greatest c.self.inside.records
    c.self.inside.nodes.items c.self.inside.lists.items g c.self.invariant
    ∙ ap (λ (v : HeapView). greatest_node v.grove) c.self.view_is in
    let a : c.greatest-list.result ≡ greatest_list c.args.self.now.grove = c.greatest-list.ensures
    ∙ ap greatest_of c.deref-2.ensures.value ∙ list_greatest c.self.inside.records
    c.self.inside.nodes.items c.self.inside.lists.items g c.self.invariant
    ∙ ap (λ (v : HeapView). greatest_list v.grove) c.self.view_is in
    let node : c.greatest-node.result + 1 ≡ (next_pick c.args.self.now.grove).node =
    omega (arith, n) in
    let list : c.greatest-list.result + 1 ≡ (next_pick c.args.self.now.grove).list =
    omega (arith, a) in (
      λ i. record { node = node i; list = list i },
      omega (arith, n, c.if-node.false, c.greatest-node.type_inv),
      omega (arith, a, c.if-list.false, c.greatest-list.type_inv),
    )
