-- Needn't be believed: the contracts of private functions alone speak of it. How much of a forest
-- is still to be let go.
use Rattle.std.specs.Prelude.{ℕ, ◌+◌, ◌*◌, Bool, true, false, cond}
use Rattle.model_shapes.specs.Trees.{Trees, none, node, hole}
use Rattle.model_groves.specs.Sizes.{size}

abbrev pub is_nothing : Trees → Bool
is_nothing none = true
is_nothing (node name number kids list rest) = false
is_nothing (hole rest) = false

-- the last tree of a row that waits was taken apart, and keeps the row round it as its children
abbrev pub waiting : Trees → ℕ
waiting none = 0
waiting (node name number kids list rest) =
    cond (is_nothing rest) (1 + waiting kids) (2 + (2 * size kids + waiting rest))
waiting (hole rest) = waiting rest
