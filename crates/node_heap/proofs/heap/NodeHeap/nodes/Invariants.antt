use Rattle.std.proofs.Common.{◌≡◌, ◌++◌, drop}
use Rattle.node_heap.specs.Indexes.{numbers}
use Rattle.node_heap.proofs.heap.NodeHeap.nodes.Given as goal

abbrev pub invariant-loop-pair : goal.invariant-loop-pair
invariant-loop-pair l = l.numbers ++ numbers (drop l.pair-index l.pair-items) ≡ numbers l.pair-items
