use Rattle.std.proofs.Common.{◌≡◌, [], map, drop}
use Rattle.model_shapes.specs.Trees.{none}
use Rattle.grove_data.specs.Trees.{forest_of}
use Rattle.node_heap.specs.Walking.{seen}
use Rattle.node_heap.specs.Writing.{built, stack}
use Rattle.node_heap.proofs.heap.NodeHeap.to_grove.Given as goal

abbrev pub invariant-loop-mark : goal.invariant-loop-mark
invariant-loop-mark l =
    built (map seen (drop l.mark-index l.mark-items)) (forest_of l.row) (stack l.outer.items)
    ≡ built (map seen l.mark-items) none []
