use Rattle.node_heap.proofs.Copies.{sorted_well, same_again}
use Rattle.node_heap.proofs.heap.NodeHeap.copy.Goals as goal

pub from_grove-copied-requires : goal.from_grove-copied-requires
from_grove-copied-requires c =
    sorted_well c.args.self.now.grove _ c.in_ok-grove.ensures.made c.in_ok-grove.ensures.shaped

pub is_equal-requires : goal.is_equal-requires
is_equal-requires c = same_again c.args.self.now.grove _ _ c.in_ok-grove.ensures.made
    c.in_ok-copied.ensures
