use Rattle.std.proofs.Common.{◌≡◌, ◌+◌, drop}
use Rattle.model_groves.specs.Sizes.{size}
use Rattle.grove_data.specs.Trees.{forest_of}
use Rattle.grove_data.proofs.counting.+left.Given as goal

abbrev pub invariant-left_by_forest-loop-tree : goal.invariant-left_by_forest-loop-tree
invariant-left_by_forest-loop-tree l =
    l.most + size (forest_of (drop l.tree-index l.tree-items)) ≡ l.left + size (forest_of l.forest)
