use Rattle.std.proofs.Common.{◌≡◌, drop}
use Rattle.grove_data.specs.Trees.{forest_of}
use Rattle.grove_data.specs.SameTrees.{same_trees}
use Rattle.grove_data.proofs.roots.+equal.Given as goal

abbrev pub invariant-are_forests_equal-loop-tree : goal.invariant-are_forests_equal-loop-tree
invariant-are_forests_equal-loop-tree l =
    same_trees (forest_of l.left) (forest_of l.right)
    ≡ same_trees (forest_of (drop l.tree-index l.tree-items)) (forest_of l.others)
