use Rattle.model_heap.specs.Entries.{depth}
use Rattle.node_heap.specs.Heap.{grove_of}
use Rattle.node_heap.proofs.Walk.{Walk, number_at}
use Rattle.node_heap.proofs.moving.ends.Given as goal

abbrev pub invariant-loop-current : goal.invariant-loop-current
invariant-loop-current l = Walk l.records l.nodes (grove_of l.records l.nodes) l.parent l.child
    l.current

abbrev pub decreases-loop-current : goal.decreases-loop-current
decreases-loop-current l = depth (number_at l.records l.current) (grove_of l.records l.nodes)
