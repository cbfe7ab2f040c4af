use Rattle.std.proofs.Common.{◌∙◌, ap}
use Rattle.node_heap.specs.HeapView.{HeapView}
use Rattle.node_heap.proofs.Ends.{grove_room, still_linked}
use Rattle.node_heap.proofs.heap.NodeHeap.reserve.Goals as goal

pub invariant_of-self : goal.invariant_of-self
invariant_of-self c =
    let room = grove_room c.self.inside.records c.reserve.new.self c.self.inside.nodes.items
    c.reserve.ensures.rest_kept in
    rw room (still_linked c.self.inside.records c.reserve.new.self c.self.inside.nodes.items
    c.self.inside.lists.items _ c.reserve.ensures.rest_kept c.self.invariant)

pub returns-in_err-reserve-clause-grove : goal.returns-in_err-reserve-clause-grove
returns-in_err-reserve-clause-grove c = grove_room c.self.inside.records c.reserve.new.self
    c.self.inside.nodes.items c.reserve.ensures.rest_kept
    ∙ ap (λ (v : HeapView). v.grove) c.self.view_is

pub invariant_of-self-in_err-reserve-2 : goal.invariant_of-self-in_err-reserve-2
invariant_of-self-in_err-reserve-2 c =
    let room = grove_room c.self.inside.records c.reserve.new.self c.self.inside.nodes.items
    c.reserve.ensures.rest_kept in
    rw (c.reserve-2.ensures.items, room) (still_linked c.self.inside.records c.reserve.new.self
    c.self.inside.nodes.items c.self.inside.lists.items _ c.reserve.ensures.rest_kept
    c.self.invariant)

pub returns-in_err-reserve-2-clause-grove : goal.returns-in_err-reserve-2-clause-grove
returns-in_err-reserve-2-clause-grove c = rw c.reserve-2.ensures.items
    (grove_room c.self.inside.records c.reserve.new.self c.self.inside.nodes.items
    c.reserve.ensures.rest_kept ∙ ap (λ (v : HeapView). v.grove) c.self.view_is)

pub invariant_of-self-2 : goal.invariant_of-self-2
invariant_of-self-2 c =
    let room = grove_room c.self.inside.records c.reserve.new.self c.self.inside.nodes.items
    c.reserve.ensures.rest_kept in
    rw (c.reserve-2.ensures.items, c.reserve-3.ensures.items, room)
    (still_linked c.self.inside.records c.reserve.new.self c.self.inside.nodes.items
    c.self.inside.lists.items _ c.reserve.ensures.rest_kept c.self.invariant)

pub invariant_of-self-in_err-reserve-3 : goal.invariant_of-self-in_err-reserve-3
invariant_of-self-in_err-reserve-3 c =
    let room = grove_room c.self.inside.records c.reserve.new.self c.self.inside.nodes.items
    c.reserve.ensures.rest_kept in
    rw (c.reserve-2.ensures.items, c.reserve-3.ensures.items, room)
    (still_linked c.self.inside.records c.reserve.new.self c.self.inside.nodes.items
    c.self.inside.lists.items _ c.reserve.ensures.rest_kept c.self.invariant)

pub returns-in_err-reserve-3-clause-grove : goal.returns-in_err-reserve-3-clause-grove
returns-in_err-reserve-3-clause-grove c = rw c.reserve-2.ensures.items
    (grove_room c.self.inside.records c.reserve.new.self c.self.inside.nodes.items
    c.reserve.ensures.rest_kept ∙ ap (λ (v : HeapView). v.grove) c.self.view_is)

pub returns-clause-grove : goal.returns-clause-grove
returns-clause-grove c = rw c.reserve-2.ensures.items
    (grove_room c.self.inside.records c.reserve.new.self c.self.inside.nodes.items
    c.reserve.ensures.rest_kept ∙ ap (λ (v : HeapView). v.grove) c.self.view_is)
