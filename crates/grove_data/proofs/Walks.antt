-- Trees and forests as they are walked.
use Rattle.std.proofs.Common.{◌≡◌, ℕ, suc, ◌<◌, ◌+◌, List, [], ◌∷◌, ◌++◌, length, get_or, drop, sym, ap, ◌∙◌, add-one, drop-cons}
use Rattle.model_shapes.specs.Trees.{Trees, none, node, beside}
use Rattle.model_shapes.proofs.Basics.{beside-none, beside_assoc}
use Rattle.grove_data.specs.Trees.{tree_of, tree_step, forest_of}
use Rattle.grove_data.specs.declared.trees.Tree.{Tree, out-Tree}
use Rattle.grove_data.specs.declared.trees.Tree.TheFolds.{fold_out-Tree}

-- a tree is a node with its fields
pub tree_is : (t : Tree) → tree_of t
    ≡ node (out-Tree t).name (out-Tree t).id (forest_of (out-Tree t).kids) (out-Tree t).list none
tree_is = fold_out-Tree Trees tree_step

-- the trees from a place on are that tree and those behind it
pub forest_at : (items : List Tree) (i : ℕ) (t : Tree) → i < length items → t ≡ get_or items i t
    → forest_of (drop i items) ≡ beside (tree_of t) (forest_of (drop (i + 1) items))
forest_at items i t h e =
    rw (add-one, drop-cons items i t)
    (ap (λ x. beside (tree_of x) (forest_of (drop (suc i) items))) (sym e))

-- a tree at the end stands beside the others
pub root_at_end : (trees : List Tree) (tree : Tree)
    → forest_of (trees ++ tree ∷ []) ≡ beside (forest_of trees) (tree_of tree)
root_at_end [] tree = beside-none (tree_of tree)
root_at_end (t ∷ trees) tree =
    ap (beside (tree_of t)) (root_at_end trees tree)
    ∙ sym (beside_assoc (tree_of t) (forest_of trees) (tree_of tree))
