use Rattle.std.proofs.Common.{◌≡◌, ◌∙◌, ◌<◌, ◌≤◌, ◌++◌, map, get_or, length, sym, ap, subst, not}
use Rattle.model_shapes.specs.Sorts.{shape, grove}
use Rattle.model_shapes.specs.Shapes.{Shaped}
use Rattle.node_heap.proofs.WellFormed.{shaped}
use Rattle.model_documents.specs.Roots.{sorted_roots}
use Rattle.model_heap.specs.Lists.{count}
use Rattle.model_heap.specs.Entries.{roots, rows_of}
use Rattle.model_heap.specs.Marks.{walked}
use Rattle.model_heap.specs.Roots.{root_at}
use Rattle.node_heap.specs.declared.index.Pair.{Pair}
use Rattle.node_heap.specs.HeapView.{HeapView}
use Rattle.node_heap.specs.Heap.{grove_of}
use Rattle.node_heap.specs.Walking.{seen, said_in}
use Rattle.node_heap.proofs.Rounds.{still_sorted, round_on, round_past, pair_is, pair_there, pair_root, pair_below}
use Rattle.node_heap.proofs.Whole.{read_back}
use Rattle.node_heap.proofs.heap.NodeHeap.walk.Goals as goal
use Rattle.node_heap.proofs.heap.NodeHeap.walk.Goals.{then-is_none+in_ok-walk_tree, else-is_none}

pub returns-clause-sorted : goal.returns-clause-sorted
returns-clause-sorted c =
    subst (λ (v : HeapView). sorted_roots v.grove ≡ v.grove) c.self.view_is
    (still_sorted c.self.inside.records c.self.inside.nodes.items c.self.inside.lists.items
    c.self.invariant)

pub returns-in_err-walk_tree-clause-sorted : goal.returns-in_err-walk_tree-clause-sorted
returns-in_err-walk_tree-clause-sorted c =
    subst (λ (v : HeapView). sorted_roots v.grove ≡ v.grove) c.self.view_is
    (still_sorted c.self.inside.records c.self.inside.nodes.items c.self.inside.lists.items
    c.self.invariant)

pub returns-clause-shaped : goal.returns-clause-shaped
returns-clause-shaped c =
    subst (λ (v : HeapView). Shaped (shape grove) v.grove) c.self.view_is
    (shaped (grove_of c.self.inside.records c.self.inside.nodes.items)
    c.self.invariant.links.well_formed c.self.invariant.links.whole)

pub returns-in_err-walk_tree-clause-shaped : goal.returns-in_err-walk_tree-clause-shaped
returns-in_err-walk_tree-clause-shaped c =
    subst (λ (v : HeapView). Shaped (shape grove) v.grove) c.self.view_is
    (shaped (grove_of c.self.inside.records c.self.inside.nodes.items)
    c.self.invariant.links.well_formed c.self.invariant.links.whole)

pub loop-pair-init : goal.loop-pair-init
loop-pair-init c =
    rw c.new-marks.ensures.items
    (ap (λ g. map (said_in (rows_of (grove_of c.self.inside.records c.self.inside.nodes.items)))
    (walked g))
    (sym (read_back c.self.inside.records c.self.inside.nodes.items c.self.inside.lists.items
    (grove_of c.self.inside.records c.self.inside.nodes.items) c.self.invariant)))

pub index-requires : goal.index-requires
index-requires c =
    let low = c.loop-pair-test.true in
    let is = pair_is c.deref-pair-items.result.now c.self.inside.nodes.items c.loop-pair.pair-index
    (record { number = 0; key = 0 }) c.deref-pair-items.ensures.value low in
    pair_there c.self.inside.records c.self.inside.nodes.items c.self.inside.lists.items
    (grove_of c.self.inside.records c.self.inside.nodes.items) c.self.invariant
    c.loop-pair.pair-index _ (subst (λ xs. c.loop-pair.pair-index < length xs)
    c.deref-pair-items.ensures.value low) is

pub walk_tree-requires : goal.walk_tree-requires
walk_tree-requires c =
    let low = c.loop-pair-test.true in
    let is = pair_is c.deref-pair-items.result.now c.self.inside.nodes.items c.loop-pair.pair-index
    (record { number = 0; key = 0 }) c.deref-pair-items.ensures.value low in
    subst (λ (v : HeapView). 1 ≤ count (get_or c.deref-pair-items.result.now c.loop-pair.pair-index
    (record { number = 0; key = 0 })).number (roots v.grove)) c.self.view_is
    (pair_root c.self.inside.records c.self.inside.nodes.items c.self.inside.lists.items
    (grove_of c.self.inside.records c.self.inside.nodes.items) c.self.invariant
    c.loop-pair.pair-index _ (subst (λ xs. c.loop-pair.pair-index < length xs)
    c.deref-pair-items.ensures.value low) is
    c.index.result.now c.index.ensures c.if-is_none.ensures)

pub loop-pair-preserved : goal.loop-pair-preserved
loop-pair-preserved c =
    let low = c.loop-pair-test.true in
    let is = pair_is c.deref-pair-items.result.now c.self.inside.nodes.items c.loop-pair.pair-index
    (record { number = 0; key = 0 }) c.deref-pair-items.ensures.value low in
    let low' = subst (λ xs. c.loop-pair.pair-index < length xs) c.deref-pair-items.ensures.value
    low in
    let pair : Pair = get_or c.deref-pair-items.result.now c.loop-pair.pair-index
    (record { number = 0; key = 0 }) in
    elim c.if-is_none.branch [
      | then-is_none+in_ok-walk_tree w ↦
          let more : map seen w.walk_tree.new.marks.items ≡ map seen c.loop-pair.marks.items
          ++ map (said_in (rows_of (grove_of c.self.inside.records c.self.inside.nodes.items)))
          (walked (root_at pair.number (grove_of c.self.inside.records
          c.self.inside.nodes.items))) =
          w.in_ok-walk_tree.ensures ∙ ap (λ (v : HeapView). map seen c.loop-pair.marks.items
          ++ map (said_in (rows_of v.grove)) (walked (root_at pair.number v.grove)))
          (sym c.self.view_is) in
          rw w.marks-is (round_on (said_in (rows_of
          (grove_of c.self.inside.records c.self.inside.nodes.items)))
          (grove_of c.self.inside.records c.self.inside.nodes.items) c.self.inside.nodes.items
          c.loop-pair.pair-index pair low' is (map seen c.loop-pair.marks.items)
          (map seen w.walk_tree.new.marks.items) _
          c.loop-pair.invariant more)
      | else-is_none w ↦
          let below = pair_below c.self.inside.records c.self.inside.nodes.items
          c.self.inside.lists.items
          (grove_of c.self.inside.records c.self.inside.nodes.items) c.self.invariant
          c.loop-pair.pair-index pair low' is c.index.result.now c.index.ensures
          (c.is_none.ensures ∙ ap not w.if-is_none.false) in
          rw w.marks-is (round_past (said_in (rows_of
          (grove_of c.self.inside.records c.self.inside.nodes.items)))
          (grove_of c.self.inside.records c.self.inside.nodes.items) c.self.inside.nodes.items
          c.loop-pair.pair-index pair low' is (map seen c.loop-pair.marks.items) _
          c.loop-pair.invariant below)
    ]
