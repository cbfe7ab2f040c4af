-- The trees of forests, one after another.
use Rattle.std.proofs.Common.{◌≡◌, List, [], ◌∷◌, ◌++◌, length, sym, refl, ap, arith, ◌∙◌, Some}
use Rattle.std.specs.Prelude.{slice_get}
use Rattle.model_shapes.specs.Trees.{none, beside, width}
use Rattle.model_shapes.proofs.Basics.{beside_assoc, beside-none, width-beside}
use Rattle.grove_data.specs.Trees.{tree_of, forest_of}
use Rattle.grove_data.specs.declared.trees.Tree.{Tree}
use Rattle.grove_data.proofs.Walks.{tree_is}

-- two forests in a row
pub forest_of-append : (xs ys : List Tree)
    → forest_of (xs ++ ys) ≡ beside (forest_of xs) (forest_of ys)
forest_of-append [] ys = refl
forest_of-append (x ∷ xs) ys =
    ap (beside (tree_of x)) (forest_of-append xs ys)
    ∙ sym (beside_assoc (tree_of x) (forest_of xs) (forest_of ys))

-- each tree is one root
pub tree-width : (t : Tree) → width (tree_of t) ≡ 1
tree-width t = ap width (tree_is t)

-- so a forest has as many roots as trees
pub forest-width : (ts : List Tree) → width (forest_of ts) ≡ length ts
forest-width [] = refl
forest-width (t ∷ ts) =
    omega (arith, width-beside (tree_of t) (forest_of ts), tree-width t, forest-width ts)

pub ruleset forest_rules = (forest_of-append)

-- the first of as many trees as there are roots
pub first-tree : (ts : List Tree) (t : Tree) → width (forest_of ts) ≡ 1
    → slice_get ts 0 ≡ Some t → tree_of t ≡ forest_of ts
first-tree [] t w e = absurd (cc)
first-tree (t' ∷ []) t w e = let same : t' ≡ t = cc in
    sym (beside-none (tree_of t)) ∙ ap (λ z. beside (tree_of z) none) (sym same)
first-tree (t' ∷ (u ∷ ts)) t w e = absurd (omega (arith, forest-width (t' ∷ (u ∷ ts))))
