use Rattle.std.proofs.Common.{◌≡◌, ◌∙◌, ◌+◌, ◌<◌, ◌++◌, [], ◌∷◌, get_or, sym, ap, subst, refl, drop}
use Rattle.model_shapes.specs.Trees.{none, node_uses}
use Rattle.model_heap.specs.Lists.{count}
use Rattle.model_heap.proofs.Words.{uses-are}
use Rattle.node_heap.specs.declared.index.Pair.{Pair}
use Rattle.node_heap.specs.HeapView.{HeapView}
use Rattle.node_heap.specs.Indexes.{numbers}
use Rattle.node_heap.specs.Heap.{grove_of}
use Rattle.node_heap.specs.Visiting.{AreRising}
use Rattle.node_heap.proofs.Rounds.{pair_is}
use Rattle.node_heap.proofs.Numbers.{numbers_rise, index_counts, numbers_on, numbers_done}
use Rattle.node_heap.proofs.heap.NodeHeap.nodes.Goals as goal

pub loop-pair-init : goal.loop-pair-init
loop-pair-init c =
    ap (λ xs. xs ++ numbers c.deref-pair-items.result.now) c.new-numbers.ensures

pub loop-pair-preserved : goal.loop-pair-preserved
loop-pair-preserved c =
    let low = c.loop-pair-test.true in
    let is = pair_is c.deref-pair-items.result.now c.deref-pair-items.result.now
    c.loop-pair.pair-index (record { number = 0; key = 0 }) refl low in
    let pair : Pair = get_or c.deref-pair-items.result.now c.loop-pair.pair-index
    (record { number = 0; key = 0 }) in
    let e : c.push.new.self ≡ c.loop-pair.numbers ++ pair.number ∷ [] =
    c.in_ok-push.ensures.ok in
    subst (λ xs. xs ++ numbers (drop (c.loop-pair.pair-index + 1) c.deref-pair-items.result.now)
    ≡ numbers c.deref-pair-items.result.now) (sym e) (numbers_on none
    c.deref-pair-items.result.now c.loop-pair.pair-index pair low is c.loop-pair.numbers
    (numbers c.deref-pair-items.result.now) c.loop-pair.invariant)

pub returns-clause-all : goal.returns-clause-all
returns-clause-all c = λ n.
    ap (count n) (numbers_done c.deref-pair-items.result.now c.loop-pair.pair-index
    c.loop-pair.numbers (numbers c.deref-pair-items.result.now) c.loop-pair-test.false
    c.loop-pair.invariant ∙ ap numbers c.deref-pair-items.ensures.value)
    ∙ index_counts c.self.inside.records c.self.inside.nodes.items c.self.inside.lists.items
    (grove_of c.self.inside.records c.self.inside.nodes.items) c.self.invariant n
    ∙ sym (uses-are n (grove_of c.self.inside.records c.self.inside.nodes.items))
    ∙ ap (λ (v : HeapView). node_uses n v.grove) c.self.view_is

pub returns-clause-rising : goal.returns-clause-rising
returns-clause-rising c =
    subst AreRising (sym (numbers_done c.deref-pair-items.result.now c.loop-pair.pair-index
    c.loop-pair.numbers (numbers c.deref-pair-items.result.now) c.loop-pair-test.false
    c.loop-pair.invariant ∙ ap numbers c.deref-pair-items.ensures.value))
    (numbers_rise c.self.inside.nodes.items c.self.invariant.rising)
