use Rattle.std.proofs.Common.{◌≡◌, max, drop}
use Rattle.model_groves.specs.Sizes.{greatest_node, greatest_list}
use Rattle.grove_data.specs.Trees.{forest_of}
use Rattle.grove_data.proofs.counting.+greatest.Given as goal

abbrev pub invariant-greatest_among-loop-tree : goal.invariant-greatest_among-loop-tree
invariant-greatest_among-loop-tree l =
    (max l.fn.before.0 (greatest_node (forest_of l.forest))
    ≡ max l.greatest.0 (greatest_node (forest_of (drop l.tree-index l.tree-items))))
    × (max l.fn.before.1 (greatest_list (forest_of l.forest))
    ≡ max l.greatest.1 (greatest_list (forest_of (drop l.tree-index l.tree-items))))
