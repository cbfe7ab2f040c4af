use Rattle.std.proofs.Common.{◌≡◌, drop}
use Rattle.model_groves.specs.Groves.{nodes_where}
use Rattle.grove_data.specs.Trees.{forest_of}
use Rattle.grove_data.specs.Finding.{test_of, first_tree}
use Rattle.grove_data.proofs.finding.+first.Given as goal

abbrev pub invariant-first_among-loop-tree : goal.invariant-first_among-loop-tree
invariant-first_among-loop-tree l =
    first_tree (nodes_where (test_of l.wanted) (forest_of l.forest))
    ≡ first_tree (nodes_where (test_of l.wanted) (forest_of (drop l.tree-index l.tree-items)))
