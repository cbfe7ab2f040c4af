use Rattle.std.proofs.Common.{◌≡◌, map, take}
use Rattle.grove_data.specs.Trees.{tree_of}
use Rattle.context_apply.proofs.forests.copied.Given as goal

abbrev pub invariant-loop-tree : goal.invariant-loop-tree
invariant-loop-tree l = map tree_of l.forest ≡ map tree_of (take l.tree-index l.trees)
