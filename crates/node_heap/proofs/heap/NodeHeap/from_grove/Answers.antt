use Rattle.grove_data.specs.Trees.{forest_of}
use Rattle.node_heap.proofs.Turns.{sorted_links}
use Rattle.node_heap.proofs.Whole.{same_grove, linked_back}
use Rattle.node_heap.proofs.heap.NodeHeap.from_grove.Goals as goal

pub invariant_of-result : goal.invariant_of-result
invariant_of-result c =
    linked_back c.in_ok-draft.draft.records c.in_ok-sorted.field-0.items
    c.in_ok-sorted-2.field-0.items (forest_of c.args.grove.now)
    (sorted_links c.in_ok-draft.draft.records c.in_ok-draft.draft.nodes.items
    c.in_ok-draft.draft.lists.items c.in_ok-sorted.field-0.items c.in_ok-sorted-2.field-0.items
    (forest_of c.args.grove.now) c.in_ok-draft.ensures c.in_ok-sorted.ensures
    c.in_ok-sorted-2.ensures)

pub returns : goal.returns
returns c =
    same_grove c.in_ok-draft.draft.records c.in_ok-sorted.field-0.items
    c.in_ok-sorted-2.field-0.items (forest_of c.args.grove.now)
    (sorted_links c.in_ok-draft.draft.records c.in_ok-draft.draft.nodes.items
    c.in_ok-draft.draft.lists.items c.in_ok-sorted.field-0.items c.in_ok-sorted-2.field-0.items
    (forest_of c.args.grove.now) c.in_ok-draft.ensures c.in_ok-sorted.ensures
    c.in_ok-sorted-2.ensures)
