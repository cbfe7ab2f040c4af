-- Needn't be believed: how many holes stand among the roots, of which laws and their proofs speak.
use Rattle.std.specs.Prelude.{ℕ, ◌+◌}
use Rattle.model_shapes.specs.Trees.{Trees, none, node, hole}

-- how many holes stand among the roots
abbrev pub root_holes : Trees → ℕ
root_holes none = 0
root_holes (node name number kids list rest) = root_holes rest
root_holes (hole rest) = 1 + root_holes rest
