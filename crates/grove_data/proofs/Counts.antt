-- The greatest numbers and the size of a forest, tree by tree.
use Rattle.std.proofs.Common.{◌≡◌, ℕ, ◌<◌, ◌+◌, max, List, length, get_or, drop, ◌∙◌, ap, arith}
use Rattle.model_shapes.specs.Trees.{Trees, none, node, hole, beside}
use Rattle.model_groves.specs.Sizes.{greatest_node, greatest_list, size}
use Rattle.grove_data.specs.Trees.{tree_of, forest_of}
use Rattle.grove_data.specs.declared.trees.Tree.{Tree, out-Tree}
use Rattle.grove_data.proofs.Walks.{tree_is, forest_at}

greatest_node-beside : (a b : Trees) → greatest_node (beside a b)
    ≡ max (greatest_node a) (greatest_node b)
greatest_node-beside none b = omega arith
greatest_node-beside (node s i k l r) b = omega (arith, greatest_node-beside r b)
greatest_node-beside (hole r) b = greatest_node-beside r b

greatest_list-beside : (a b : Trees) → greatest_list (beside a b)
    ≡ max (greatest_list a) (greatest_list b)
greatest_list-beside none b = omega arith
greatest_list-beside (node s i k l r) b = omega (arith, greatest_list-beside r b)
greatest_list-beside (hole r) b = greatest_list-beside r b

pub size-beside : (a b : Trees) → size (beside a b) ≡ size a + size b
size-beside none b = omega arith
size-beside (node s i k l r) b = omega (arith, size-beside r b)
size-beside (hole r) b = size-beside r b

-- in a forest, from a place on
pub node_at_place : (items : List Tree) (i : ℕ) (t : Tree) → i < length items → t ≡ get_or items i t
    → greatest_node (forest_of (drop i items))
    ≡ max (greatest_node (tree_of t)) (greatest_node (forest_of (drop (i + 1) items)))
node_at_place items i t h e =
    ap greatest_node (forest_at items i t h e)
    ∙ greatest_node-beside (tree_of t) (forest_of (drop (i + 1) items))

pub list_at_place : (items : List Tree) (i : ℕ) (t : Tree) → i < length items → t ≡ get_or items i t
    → greatest_list (forest_of (drop i items))
    ≡ max (greatest_list (tree_of t)) (greatest_list (forest_of (drop (i + 1) items)))
list_at_place items i t h e =
    ap greatest_list (forest_at items i t h e)
    ∙ greatest_list-beside (tree_of t) (forest_of (drop (i + 1) items))

pub size_at_place : (items : List Tree) (i : ℕ) (t : Tree) → i < length items → t ≡ get_or items i t
    → size (forest_of (drop i items)) ≡ size (tree_of t) + size (forest_of (drop (i + 1) items))
size_at_place items i t h e =
    ap size (forest_at items i t h e) ∙ size-beside (tree_of t) (forest_of (drop (i + 1) items))

-- in a tree
pub node_in_tree : (t : Tree)
    → greatest_node (tree_of t) ≡ max (out-Tree t).id (greatest_node (forest_of (out-Tree t).kids))
node_in_tree t = omega (arith, ap greatest_node (tree_is t))

pub list_in_tree : (t : Tree)
    → greatest_list (tree_of t) ≡ max (out-Tree t).list
    (greatest_list (forest_of (out-Tree t).kids))
list_in_tree t = omega (arith, ap greatest_list (tree_is t))

pub size_in_tree : (t : Tree) → size (tree_of t) ≡ 1 + size (forest_of (out-Tree t).kids)
size_in_tree t = omega (arith, ap size (tree_is t))

-- the greatest of a tree, and of a forest as it is walked
pub ruleset greatest_in_tree = (node_in_tree, list_in_tree)

pub ruleset greatest_in_turn = (node_at_place, list_at_place)
