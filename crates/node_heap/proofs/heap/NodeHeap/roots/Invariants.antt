use Rattle.std.proofs.Common.{◌≡◌, ◌++◌, drop}
use Rattle.model_heap.specs.Entries.{roots}
use Rattle.model_heap.specs.Roots.{arranged}
use Rattle.node_heap.specs.Indexes.{numbers}
use Rattle.node_heap.specs.Heap.{grove_of}
use Rattle.node_heap.proofs.heap.NodeHeap.roots.Given as goal

abbrev pub invariant-loop-pair : goal.invariant-loop-pair
invariant-loop-pair l =
    l.numbers ++ roots (arranged (grove_of l.self-inside.records l.self-inside.nodes.items)
    (numbers (drop l.pair-index l.self-inside.nodes.items)))
    ≡ roots (grove_of l.self-inside.records l.self-inside.nodes.items)
