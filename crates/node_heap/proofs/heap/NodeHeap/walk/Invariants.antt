use Rattle.std.proofs.Common.{◌≡◌, ◌++◌, map, drop}
use Rattle.model_heap.specs.Entries.{rows_of}
use Rattle.model_heap.specs.Marks.{walked}
use Rattle.model_heap.specs.Roots.{arranged}
use Rattle.node_heap.specs.Indexes.{numbers}
use Rattle.node_heap.specs.Heap.{grove_of}
use Rattle.node_heap.specs.Walking.{seen, said_in}
use Rattle.node_heap.proofs.heap.NodeHeap.walk.Given as goal

abbrev pub invariant-loop-pair : goal.invariant-loop-pair
invariant-loop-pair l =
    map seen l.marks.items
    ++ map (said_in (rows_of (grove_of l.self-inside.records l.self-inside.nodes.items)))
    (walked (arranged (grove_of l.self-inside.records l.self-inside.nodes.items)
    (numbers (drop l.pair-index l.self-inside.nodes.items))))
    ≡ map (said_in (rows_of (grove_of l.self-inside.records l.self-inside.nodes.items)))
    (walked (grove_of l.self-inside.records l.self-inside.nodes.items))
