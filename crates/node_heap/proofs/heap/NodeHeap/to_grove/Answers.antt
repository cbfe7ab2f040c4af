use Rattle.std.proofs.Common.{arith}
use Rattle.grove_data.specs.Trees.{forest_of}
use Rattle.node_heap.specs.Writing.{stack}
use Rattle.node_heap.proofs.Texts.{made_whole}
use Rattle.node_heap.proofs.heap.NodeHeap.to_grove.Goals as goal

pub returns-clause-made : goal.returns-clause-made
returns-clause-made c =
    made_whole c.args.self.now.grove c.in_ok-marks.ensures.shaped c.in_ok-marks.ensures.sorted
    c.in_ok-marks.marks.items c.deref-mark-items.result.now c.in_ok-marks.ensures.marks
    c.deref-mark-items.ensures.value c.loop-mark.mark-index (omega (arith, c.loop-mark-test.false))
    (forest_of c.loop-mark.row) (stack c.loop-mark.outer.items) c.loop-mark.invariant
