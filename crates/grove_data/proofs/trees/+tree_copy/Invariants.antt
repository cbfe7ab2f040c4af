use Rattle.std.proofs.Common.{◌≡◌, map, take}
use Rattle.grove_data.specs.Trees.{tree_of}
use Rattle.grove_data.proofs.trees.+tree_copy.Given as goal

abbrev pub invariant-copied_forest-loop-tree : goal.invariant-copied_forest-loop-tree
invariant-copied_forest-loop-tree l =
    map tree_of l.copied ≡ map tree_of (take l.tree-index l.tree-items)
