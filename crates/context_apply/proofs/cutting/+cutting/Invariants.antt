use Rattle.std.proofs.Common.{◌≡◌, drop}
use Rattle.model_shapes.specs.Trees.{node_uses}
use Rattle.grove_data.specs.Trees.{forest_of}
use Rattle.context_apply.proofs.cutting.+cutting.Given as goal

abbrev pub invariant-cut_forest-loop-place : goal.invariant-cut_forest-loop-place
invariant-cut_forest-loop-place l =
    node_uses l.id (forest_of l.trees) ≡ node_uses l.id (forest_of (drop l.place l.trees))
