use Rattle.node_heap.specs.Heap.{grove_of}
use Rattle.node_heap.proofs.Along.{Along}
use Rattle.node_heap.proofs.heap.NodeHeap.item.Given as goal

abbrev pub invariant-loop-passed : goal.invariant-loop-passed
invariant-loop-passed l = Along l.self-inside.records l.self-inside.nodes.items
    (grove_of l.self-inside.records l.self-inside.nodes.items) l.list l._passed l.current
