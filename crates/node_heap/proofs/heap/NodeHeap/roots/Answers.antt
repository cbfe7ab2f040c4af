use Rattle.std.proofs.Common.{◌≡◌, ◌∙◌, ◌+◌, ◌<◌, ◌≤◌, ◌++◌, [], ◌∷◌, get_or, length, sym, ap, subst, not, drop}
use Rattle.model_heap.specs.Lists.{count}
use Rattle.model_heap.specs.Entries.{roots}
use Rattle.model_heap.specs.Roots.{arranged}
use Rattle.node_heap.specs.declared.index.Pair.{Pair}
use Rattle.node_heap.specs.HeapView.{HeapView}
use Rattle.node_heap.specs.Indexes.{numbers}
use Rattle.node_heap.specs.Heap.{grove_of}
use Rattle.node_heap.specs.Visiting.{AreRising}
use Rattle.node_heap.proofs.Rounds.{pair_is, pair_there, pair_root, pair_below}
use Rattle.node_heap.proofs.Whole.{read_back}
use Rattle.node_heap.proofs.Numbers.{grove_roots_rise, roots_on, roots_past, roots_done}
use Rattle.node_heap.proofs.heap.NodeHeap.roots.Goals as goal
use Rattle.node_heap.proofs.heap.NodeHeap.roots.Goals.{then-is_none+in_ok-push, else-is_none}

pub loop-pair-init : goal.loop-pair-init
loop-pair-init c =
    ap (λ xs. xs ++ roots (arranged (grove_of c.self.inside.records c.self.inside.nodes.items)
    (numbers c.self.inside.nodes.items))) c.new-numbers.ensures
    ∙ ap roots (sym (read_back c.self.inside.records c.self.inside.nodes.items
    c.self.inside.lists.items (grove_of c.self.inside.records c.self.inside.nodes.items)
    c.self.invariant))

pub index-requires : goal.index-requires
index-requires c =
    let low = c.loop-pair-test.true in
    let is = pair_is c.deref-pair-items.result.now c.self.inside.nodes.items c.loop-pair.pair-index
    (record { number = 0; key = 0 }) c.deref-pair-items.ensures.value low in
    pair_there c.self.inside.records c.self.inside.nodes.items c.self.inside.lists.items
    (grove_of c.self.inside.records c.self.inside.nodes.items) c.self.invariant
    c.loop-pair.pair-index _ (subst (λ xs. c.loop-pair.pair-index < length xs)
    c.deref-pair-items.ensures.value low) is

pub loop-pair-preserved : goal.loop-pair-preserved
loop-pair-preserved c =
    let low = c.loop-pair-test.true in
    let is = pair_is c.deref-pair-items.result.now c.self.inside.nodes.items c.loop-pair.pair-index
    (record { number = 0; key = 0 }) c.deref-pair-items.ensures.value low in
    let low' = subst (λ xs. c.loop-pair.pair-index < length xs) c.deref-pair-items.ensures.value
    low in
    let g = grove_of c.self.inside.records c.self.inside.nodes.items in
    let pair : Pair = get_or c.deref-pair-items.result.now c.loop-pair.pair-index
    (record { number = 0; key = 0 }) in
    elim c.if-is_none.branch [
      | then-is_none+in_ok-push w ↦
          let root = pair_root c.self.inside.records c.self.inside.nodes.items
          c.self.inside.lists.items g c.self.invariant c.loop-pair.pair-index pair low' is
          c.index.result.now c.index.ensures (c.is_none.ensures ∙ ap not w.if-is_none.true) in
          let e : c.if-is_none.numbers ≡ c.loop-pair.numbers ++ pair.number ∷ [] =
          w.numbers-is ∙ w.in_ok-push.ensures.ok in
          subst (λ xs. xs ++ roots (arranged g (numbers (drop (c.loop-pair.pair-index + 1)
          c.self.inside.nodes.items))) ≡ roots g) (sym e) (roots_on g c.self.inside.nodes.items
          c.loop-pair.pair-index pair low' is c.loop-pair.numbers (roots g) root
          c.loop-pair.invariant)
      | else-is_none w ↦
          let below = pair_below c.self.inside.records c.self.inside.nodes.items
          c.self.inside.lists.items g c.self.invariant c.loop-pair.pair-index pair low' is
          c.index.result.now c.index.ensures (c.is_none.ensures ∙ ap not w.if-is_none.false) in
          rw w.numbers-is (roots_past g c.self.inside.nodes.items c.loop-pair.pair-index pair low'
          is c.loop-pair.numbers (roots g) below c.loop-pair.invariant)
    ]

pub returns-clause-rising : goal.returns-clause-rising
returns-clause-rising c =
    subst AreRising (sym (roots_done (grove_of c.self.inside.records c.self.inside.nodes.items)
    c.self.inside.nodes.items c.loop-pair.pair-index c.loop-pair.numbers
    (roots (grove_of c.self.inside.records c.self.inside.nodes.items))
    (subst (λ xs. length xs ≤ c.loop-pair.pair-index) c.deref-pair-items.ensures.value
    c.loop-pair-test.false) c.loop-pair.invariant))
    (grove_roots_rise c.self.inside.records c.self.inside.nodes.items c.self.inside.lists.items
    (grove_of c.self.inside.records c.self.inside.nodes.items) c.self.invariant)
