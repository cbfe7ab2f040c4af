-- What is read off a node.
use Rattle.std.proofs.Common.{◌≡◌, ◌≢◌, ℕ, zero, suc, List, [], ◌∷◌, Some, None, refl, sym, ap, ◌∙◌}
use Rattle.std.specs.Prelude.{slice_get}
use Rattle.model_shapes.specs.Values.{Value, null, node_number}
use Rattle.model_shapes.specs.Trees.{Trees, none, node, beside, WellFormed}
use Rattle.model_groves.specs.Groves.{node_at, number_at}
use Rattle.model_machine.proofs.Fine.{found-node}
use Rattle.grove_data.specs.declared.trees.Tree.{Tree, out-Tree}
use Rattle.grove_data.specs.Trees.{tree_of, forest_of}
use Rattle.grove_data.proofs.Walks.{tree_is}

-- the children, the first one by its fields
kids_with : (n : ℕ) (t : Tree) (kids : List Tree)
    → number_at n (forest_of (t ∷ kids))
    ≡ number_at n (node (out-Tree t).name (out-Tree t).id (forest_of (out-Tree t).kids)
    (out-Tree t).list (forest_of kids))
kids_with n t kids = ap (λ z. number_at n (beside z (forest_of kids))) (tree_is t)

-- the child at a place
pub child_there : (kids : List Tree) (n : ℕ) (t : Tree) → Some t ≡ slice_get kids n
    → node_number (out-Tree t).id ≡ number_at n (forest_of kids)
child_there [] n t e = absurd cc
child_there (k ∷ kids) zero t e =
    let same : t ≡ k = cc in
    ap (λ z. node_number (out-Tree z).id) same ∙ sym (kids_with 0 k kids)
child_there (k ∷ kids) (suc n) t e = child_there kids n t e ∙ sym (kids_with (suc n) k kids)

-- and none behind them
pub no_child : (kids : List Tree) (n : ℕ) → None ≡ slice_get kids n
    → null ≡ number_at n (forest_of kids)
no_child [] n e = refl
no_child (k ∷ kids) zero e = absurd cc
no_child (k ∷ kids) (suc n) e = no_child kids n e ∙ sym (kids_with (suc n) k kids)

-- a node that is found stands in the grove by its number
pub stands : (v : Value) (g : Trees) (t : Tree) → WellFormed g → node_at v g ≡ tree_of t
    → node_at (node_number (out-Tree t).id) g ≢ none
stands v g t w e =
    let found = found-node v g w (out-Tree t).name (out-Tree t).id (forest_of (out-Tree t).kids)
    (out-Tree t).list none (e ∙ tree_is t) in
    λ q. let bad = sym found.here ∙ q in cc
