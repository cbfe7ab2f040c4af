-- The trees of the program have no hole.
use Rattle.std.proofs.Common.{◌≡◌, List, [], ◌∷◌, map, refl, ap, arith, subst}
use Rattle.model_shapes.specs.Trees.{Trees}
use Rattle.model_shapes.specs.Shapes.{holes}
use Rattle.model_shapes.proofs.Basics.{holes-beside}
use Rattle.grove_data.specs.Trees.{tree_of, forest_of, tree_step}
use Rattle.grove_data.specs.declared.trees.Tree.{Tree}
use Rattle.grove_data.specs.declared.trees.Tree.TheFolds.{fold-roll-Tree, ind-Tree}

abbrev IsBare : Tree → Type 0
IsBare t = holes (tree_of t) ≡ 0

kids-bare : (ts : List ((t : Tree) × IsBare t)) → holes (forest_of (map (λ e. e.0) ts)) ≡ 0
kids-bare [] = refl
kids-bare (t ∷ ts) =
    omega (arith, holes-beside (tree_of t.0) (forest_of (map (λ e. e.0) ts)), t.1, kids-bare ts)

-- no tree has a hole
pub tree-bare : (t : Tree) → holes (tree_of t) ≡ 0
tree-bare = ind-Tree IsBare (λ x y is.
    let inner = subst (λ z. holes (forest_of z.kids) ≡ 0) is (kids-bare y.kids) in
    omega (arith, ap holes (fold-roll-Tree Trees tree_step x), inner))

-- and no forest
pub forest-bare : (ts : List Tree) → holes (forest_of ts) ≡ 0
forest-bare [] = refl
forest-bare (t ∷ ts) =
    omega (arith, holes-beside (tree_of t) (forest_of ts), tree-bare t, forest-bare ts)
