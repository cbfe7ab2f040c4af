use Rattle.std.proofs.Common.{◌≡◌, map, take}
use Rattle.logic_text.specs.RawGroves.{raw_tree_of}
use Rattle.logic_text.proofs.raw_groves.+raw_tree_copy.Given as goal

abbrev pub invariant-copied_forest-loop-tree : goal.invariant-copied_forest-loop-tree
invariant-copied_forest-loop-tree l =
    map raw_tree_of l.copied ≡ map raw_tree_of (take l.tree-index l.tree-items)
