use Rattle.std.proofs.Common.{◌+◌, ◌*◌}
use Rattle.model_groves.specs.Sizes.{size}
use Rattle.grove_data.specs.Trees.{forest_of}
use Rattle.grove_data.specs.LettingGo.{waiting}
use Rattle.grove_data.proofs.letting_go.let_go.Given as goal

abbrev pub decreases-loop-outer : goal.decreases-loop-outer
decreases-loop-outer l = 2 * size (forest_of l.row) + waiting (forest_of l.outer)
