use Rattle.std.proofs.Common.{◌≡◌, ◌++◌, true, map, drop}
use Rattle.node_heap.specs.Walking.{seen}
use Rattle.node_heap.specs.Writing.{pieces}
use Rattle.node_heap.proofs.heap.NodeHeap.write_text.Given as goal

abbrev pub invariant-loop-mark : goal.invariant-loop-mark
invariant-loop-mark l =
    l.text ++ pieces l.is_first (map seen (drop l.mark-index l.mark-items))
    ≡ pieces true (map seen l.mark-items)
