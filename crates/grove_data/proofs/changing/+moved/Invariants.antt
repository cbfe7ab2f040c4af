use Rattle.std.proofs.Common.{◌≡◌, drop}
use Rattle.model_shapes.specs.Trees.{beside}
use Rattle.grove_data.specs.Trees.{tree_of, forest_of}
use Rattle.grove_data.specs.Moving.{moving}
use Rattle.grove_data.specs.declared.trees.Tree.{out-Tree}
use Rattle.grove_data.proofs.changing.+moved.Given as goal

abbrev pub invariant-moved_among-loop-tree : goal.invariant-moved_among-loop-tree
invariant-moved_among-loop-tree l =
    moving l.place (out-Tree l.child).id (tree_of l.child) (forest_of l.forest)
    ≡ beside (forest_of l.moved) (moving l.place (out-Tree l.child).id (tree_of l.child)
    (forest_of (drop l.tree-index l.tree-items)))
