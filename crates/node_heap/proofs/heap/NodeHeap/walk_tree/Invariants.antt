use Rattle.std.specs.Prelude.{map}
use Rattle.model_heap.specs.Roots.{root_at}
use Rattle.node_heap.specs.Heap.{grove_of}
use Rattle.node_heap.specs.Walking.{seen}
use Rattle.node_heap.proofs.Tours.{Toured, left_at}
use Rattle.node_heap.proofs.heap.NodeHeap.walk_tree.Given as goal

abbrev pub invariant-loop-place : goal.invariant-loop-place
invariant-loop-place l =
    Toured l.self-inside.records l.self-inside.nodes.items
    (grove_of l.self-inside.records l.self-inside.nodes.items) l.root
    (map seen l.initial.marks.items)
    (map seen l.marks.items) l.place

abbrev pub decreases-loop-place : goal.decreases-loop-place
decreases-loop-place l =
    left_at l.self-inside.records
    (root_at l.root (grove_of l.self-inside.records l.self-inside.nodes.items)) l.place
