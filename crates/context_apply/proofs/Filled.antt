-- What filling the contexts of the program gives.
use Rattle.std.proofs.Common.{◌≡◌, ◌*◌, List, ap, arith}
use Rattle.model_shapes.specs.Trees.{Trees, hole, beside, fill}
use Rattle.model_shapes.specs.Shapes.{holes}
use Rattle.model_shapes.proofs.Basics.{beside-none, node_uses-fill, list_uses-fill}
use Rattle.model_shapes.proofs.ByConstruction.{fill-between, fill-before, fill-root}
use Rattle.grove_data.specs.Trees.{forest_of}
use Rattle.grove_data.specs.declared.trees.Tree.{Tree}
use Rattle.context_apply.specs.Clashes.{NoZero}
use Rattle.grove_data.proofs.Bare.{forest-bare}

-- a forest between two others
pub between-filled : (left right : List Tree) (inside piece : Trees)
    → fill (beside (forest_of left) (beside inside (forest_of right))) piece
    ≡ beside (forest_of left) (beside (fill inside piece) (forest_of right))
between-filled left right inside piece =
    fill-between (forest_of left) inside (forest_of right) piece (forest-bare left)
    (forest-bare right)

-- a grove before the other roots
pub before-filled : (rest : List Tree) (piece : Trees)
    → fill (hole (forest_of rest)) piece ≡ beside piece (forest_of rest)
before-filled rest piece = fill-before (forest_of rest) piece (forest-bare rest)

-- a root before the others
pub root-filled : (rest : List Tree) (root piece : Trees)
    → fill (beside root (forest_of rest)) piece ≡ beside (fill root piece) (forest_of rest)
root-filled rest root piece = fill-root root (forest_of rest) piece (forest-bare rest)

pub ruleset filled_rules = (between-filled, before-filled, root-filled, beside-none)

-- filling brings in no number 0
pub zero-filled : (outside piece : Trees) → NoZero outside → NoZero piece
    → NoZero (fill outside piece)
zero-filled outside piece o p = (
  omega (arith, node_uses-fill 0 outside piece, o.0, ap (λ n. holes outside * n) p.0),
  omega (arith, list_uses-fill 0 outside piece, o.1, ap (λ n. holes outside * n) p.1),
)
