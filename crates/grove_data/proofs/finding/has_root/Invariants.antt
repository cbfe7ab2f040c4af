use Rattle.std.proofs.Common.{◌≡◌, drop}
use Rattle.model_groves.specs.Groves.{has_root}
use Rattle.grove_data.specs.Trees.{forest_of}
use Rattle.grove_data.proofs.finding.has_root.Given as goal

abbrev pub invariant-loop-tree : goal.invariant-loop-tree
invariant-loop-tree l =
    has_root l.id (forest_of l.forest) ≡ has_root l.id (forest_of (drop l.tree-index l.tree-items))
