use Rattle.std.proofs.Common.{◌≡◌, ◌<ℤ◌, ◌∙◌, ◌+◌, arith, pos, Some, None, sym, ap, subst, refl}
use Rattle.std.proofs.lemmas.Int.{to_z-of_z}
use mir.Syntax.{w64}
use Rattle.node_heap.specs.HeapView.{HeapView}
use Rattle.node_heap.specs.Indexes.{lookup}
use Rattle.node_heap.specs.Heap.{grove_of}
use Rattle.node_heap.proofs.Told.{item_told, item_before, item_unlisted}
use Rattle.node_heap.proofs.Along.{Along, start, owner_there, at_key, at_end}
use Rattle.std.specs.Option.{IsSome}
use Rattle.node_heap.specs.declared.records.Record.{Record}
use Rattle.node_heap.proofs.heap.NodeHeap.item.Goals as goal
use Rattle.node_heap.proofs.heap.NodeHeap.item.Goals.{In-Some}

index : (c : In-Some) → Some c.in-Some.key ≡ lookup c.args.list c.self.inside.lists.items
index c = sym c.in-Some.is ∙ c.find.ensures ∙ ap (lookup c.args.list) c.deref.ensures.value

pub index-requires : goal.index-requires
index-requires c = owner_there c.self.inside.records c.self.inside.nodes.items
    c.self.inside.lists.items (grove_of c.self.inside.records c.self.inside.nodes.items)
    c.self.invariant.links c.args.list c.in-Some.key (index (goal.at.index-requires c).In-Some)

pub loop-passed-init : goal.loop-passed-init
loop-passed-init c = start c.self.inside.records c.self.inside.nodes.items c.self.inside.lists.items
    (grove_of c.self.inside.records c.self.inside.nodes.items) c.self.invariant.links c.args.list
    c.in-Some.key c.index.result.now (index (goal.at.loop-passed-init c).In-Some) c.index.ensures

pub index-requires-in-Some-current : goal.index-requires-in-Some-current
index-requires-in-Some-current c = let w = at_key c.self.inside.records c.self.inside.nodes.items
    c.self.inside.lists.items (grove_of c.self.inside.records c.self.inside.nodes.items)
    c.self.invariant.links c.args.list c.loop-passed._passed c.in-Some-current.key
    c.loop-passed.current c.loop-passed.invariant c.in-Some-current.is in
    subst IsSome (sym w.there.at) refl

pub loop-passed-preserved : goal.loop-passed-preserved
loop-passed-preserved c =
    let w = at_key c.self.inside.records c.self.inside.nodes.items c.self.inside.lists.items
    (grove_of c.self.inside.records c.self.inside.nodes.items) c.self.invariant.links
    c.args.list c.loop-passed._passed c.in-Some-current.key c.loop-passed.current
    c.loop-passed.invariant c.in-Some-current.is in
    let same : w.there.it ≡ c.index-in-Some-current.result.now = let x = w.there.at in let y =
    c.index-in-Some-current.ensures in cc in
    subst (λ (r : Record). Along c.self.inside.records c.self.inside.nodes.items
    (grove_of c.self.inside.records c.self.inside.nodes.items) c.args.list
    (c.loop-passed._passed + 1) r.next) same w.onward

pub index-requires-in-Some-current-2 : goal.index-requires-in-Some-current-2
index-requires-in-Some-current-2 c = let w = at_key c.self.inside.records c.self.inside.nodes.items
    c.self.inside.lists.items (grove_of c.self.inside.records c.self.inside.nodes.items)
    c.self.invariant.links c.args.list c.loop-passed._passed c.in-Some-current-2.key
    c.loop-passed.current c.loop-passed.invariant c.in-Some-current-2.is in
    subst IsSome (sym w.there.at) refl

pub returns-in-None : goal.returns-in-None
returns-in-None c =
    item_unlisted _ _ _ (grove_of c.self.inside.records c.self.inside.nodes.items)
    c.self.invariant.links c.args.list _
    (sym c.in-None.is ∙ c.find.ensures ∙ ap (lookup c.args.list) c.deref.ensures.value)
    c.args.self.now.grove (ap (λ (v : HeapView). v.grove) c.self.view_is)

pub returns-in-None-count_of : goal.returns-in-None-count_of
returns-in-None-count_of c =
    let t = (goal.at.returns-in-None-count_of c).In-Some in
    item_before _ _ _ (grove_of c.self.inside.records c.self.inside.nodes.items)
    c.self.invariant.links c.args.list c.in-Some.key (index t) c.args.place
    (subst (λ z. z <ℤ pos 0) (to_z-of_z w64 c.args.place c.ranges.place)
    c.in-None-count_of.ensures)
    c.args.self.now.grove (ap (λ (v : HeapView). v.grove) c.self.view_is)

pub returns-in-None-current : goal.returns-in-None-current
returns-in-None-current c =
    let w = c.loop-passed.invariant in
    item_told _ _ _ (grove_of c.self.inside.records c.self.inside.nodes.items)
    c.self.invariant.links c.args.list w.owner w.entry w.is w.list_is None
    c.in-Some-count_of.count c.args.place
    (at_end _ _ _ _ c.self.invariant.links c.args.list c.loop-passed._passed
    c.in-Some-count_of.count c.loop-passed.current w c.in-None-current.is (omega arith) w.owner
    w.entry w.is w.list_is)
    (sym (to_z-of_z w64 c.args.place c.ranges.place) ∙ c.in-Some-count_of.ensures)
    c.args.self.now.grove (ap (λ (v : HeapView). v.grove) c.self.view_is)

pub returns-in-Some-current-2 : goal.returns-in-Some-current-2
returns-in-Some-current-2 c =
    let p : c.in-Some-count_of.count ≡ c.loop-passed._passed = omega arith in
    let w = c.loop-passed.invariant in
    let x =
    at_key _ _ _ _ c.self.invariant.links c.args.list c.loop-passed._passed
    c.in-Some-current-2.key c.loop-passed.current w c.in-Some-current-2.is in
    let same : x.there.it ≡ c.index-in-Some-current-2.result.now =
    let y = x.there.at in let z = c.index-in-Some-current-2.ensures in cc in
    let number : x.number ≡ c.index-in-Some-current-2.result.now.number =
    sym x.there.fits.number ∙ ap (λ (r : Record). r.number) same in
    item_told _ _ _ (grove_of c.self.inside.records c.self.inside.nodes.items)
    c.self.invariant.links c.args.list w.owner w.entry w.is w.list_is
    (Some c.index-in-Some-current-2.result.now.number) c.loop-passed._passed c.args.place
    (x.item w.owner w.entry w.is w.list_is ∙ ap Some number)
    (sym (to_z-of_z w64 c.args.place c.ranges.place) ∙ c.in-Some-count_of.ensures ∙ ap pos p)
    c.args.self.now.grove (ap (λ (v : HeapView). v.grove) c.self.view_is)

pub returns-in-None-current-2 : goal.returns-in-None-current-2
returns-in-None-current-2 c =
    let w = c.loop-passed.invariant in
    item_told _ _ _ (grove_of c.self.inside.records c.self.inside.nodes.items)
    c.self.invariant.links c.args.list w.owner w.entry w.is w.list_is None
    c.in-Some-count_of.count c.args.place
    (at_end _ _ _ _ c.self.invariant.links c.args.list c.loop-passed._passed
    c.in-Some-count_of.count c.loop-passed.current w c.in-None-current-2.is (omega arith) w.owner
    w.entry w.is w.list_is)
    (sym (to_z-of_z w64 c.args.place c.ranges.place) ∙ c.in-Some-count_of.ensures)
    c.args.self.now.grove (ap (λ (v : HeapView). v.grove) c.self.view_is)
