-- The first node that passes a test.
use Rattle.std.proofs.Common.{◌≡◌, ℕ, ◌≤◌, ◌<◌, ◌+◌, length, get_or, drop, arith, Bool, true, false, ◌||◌, List, Option, Some, None, refl, sym, ◌∙◌, ap}
use Rattle.std.proofs.Math.Decide.{ℕ_discrete}
use Rattle.std.specs.Option.{option_or}
use Rattle.model_shapes.specs.Trees.{Trees, none, node, hole, beside, width, WellFormed}
use Rattle.model_shapes.proofs.Basics.{beside-none}
use Rattle.model_groves.specs.Groves.{is_yes}
use Rattle.model_groves.specs.Groves.{nodes_where, has_root, numbered, listed}
use Rattle.model_groves.proofs.Groves.{those-beside, those-pass, Roots, width-numbered, width-listed}
use Rattle.grove_data.specs.Finding.{first_tree}
use Rattle.grove_data.specs.Trees.{tree_of, forest_of}
use Rattle.grove_data.specs.declared.trees.Tree.{Tree, out-Tree}
use Rattle.grove_data.proofs.Walks.{tree_is, forest_at}

-- the first of two lists of roots
pub first_tree-beside : (a b : Trees) → first_tree (beside a b)
    ≡ option_or (first_tree a) (first_tree b)
first_tree-beside none b = refl
first_tree-beside (node s i k l r) b = refl
first_tree-beside (hole r) b = first_tree-beside r b

-- the first node that passes a test is in the tree at a place, or else in those behind it
first_in_forest : (test : ℕ → Trees → ℕ → Bool) (items : List Tree) (i : ℕ) (t : Tree)
    → i < length items → t ≡ get_or items i t
    → first_tree (nodes_where test (forest_of (drop i items)))
    ≡ option_or (first_tree (nodes_where test (tree_of t)))
    (first_tree (nodes_where test (forest_of (drop (i + 1) items))))
first_in_forest test items i t h e =
    let rest = forest_of (drop (i + 1) items) in
    ap (λ z. first_tree (nodes_where test z)) (forest_at items i t h e)
    ∙ ap first_tree (those-beside test (tree_of t) rest)
    ∙ first_tree-beside (nodes_where test (tree_of t)) (nodes_where test rest)

pub first_is_there : (test : ℕ → Trees → ℕ → Bool) (items : List Tree) (i : ℕ) (t : Tree)
    (found : Trees)
    → i < length items → t ≡ get_or items i t
    → Some found ≡ first_tree (nodes_where test (tree_of t))
    → first_tree (nodes_where test (forest_of (drop i items))) ≡ Some found
first_is_there test items i t found h e f =
    first_in_forest test items i t h e
    ∙ ap (λ z. option_or z (first_tree (nodes_where test (forest_of (drop (i + 1) items))))) (sym f)

pub first_is_behind : (test : ℕ → Trees → ℕ → Bool) (items : List Tree) (i : ℕ) (t : Tree)
    → i < length items → t ≡ get_or items i t → None ≡ first_tree (nodes_where test (tree_of t))
    → first_tree (nodes_where test (forest_of (drop i items)))
    ≡ first_tree (nodes_where test (forest_of (drop (i + 1) items)))
first_is_behind test items i t h e f =
    first_in_forest test items i t h e
    ∙ ap (λ z. option_or z (first_tree (nodes_where test (forest_of (drop (i + 1) items))))) (sym f)

-- a tree that passes is the first
pub first_is_root : (test : ℕ → Trees → ℕ → Bool) (t : Tree)
    → test (out-Tree t).id (forest_of (out-Tree t).kids) (out-Tree t).list ≡ true
    → first_tree (nodes_where test (tree_of t)) ≡ Some (tree_of t)
first_is_root test t e = rw (tree_is t, e) refl

-- and else the first is below
pub first_is_below : (test : ℕ → Trees → ℕ → Bool) (t : Tree)
    → test (out-Tree t).id (forest_of (out-Tree t).kids) (out-Tree t).list ≡ false
    → first_tree (nodes_where test (tree_of t))
    ≡ first_tree (nodes_where test (forest_of (out-Tree t).kids))
first_is_below test t e =
    rw (tree_is t, e) (ap first_tree (beside-none (nodes_where test (forest_of (out-Tree t).kids))))

-- the test of a number
pub yes_itself : (m n : ℕ) → n ≡ m → is_yes (ℕ_discrete m n) ≡ true
yes_itself m n e = by_decision (ℕ_discrete m n)
  where
    by_decision : (d : Dec (m ≡ n)) → is_yes d ≡ true
    by_decision (yes f) = refl
    by_decision (no f) = absurd (f (sym e))

pub no_other : (m n : ℕ) → (n ≡ m → ⊥) → is_yes (ℕ_discrete m n) ≡ false
no_other m n e = by_decision (ℕ_discrete m n)
  where
    by_decision : (d : Dec (m ≡ n)) → is_yes d ≡ false
    by_decision (yes f) = absurd (e (sym f))
    by_decision (no f) = refl

-- a root of the number is the tree at a place, or among those behind it
root_in_forest : (id : ℕ) (items : List Tree) (i : ℕ) (t : Tree) → i < length items
    → t ≡ get_or items i t
    → has_root id (forest_of (drop i items))
    ≡ (is_yes (ℕ_discrete id (out-Tree t).id) || has_root id (forest_of (drop (i + 1) items)))
root_in_forest id items i t h e =
    ap (has_root id) (forest_at items i t h e)
    ∙ ap (λ z. has_root id (beside z (forest_of (drop (i + 1) items)))) (tree_is t)

pub root_is_there : (id : ℕ) (items : List Tree) (i : ℕ) (t : Tree) → i < length items
    → t ≡ get_or items i t → (out-Tree t).id ≡ id → has_root id (forest_of (drop i items)) ≡ true
root_is_there id items i t h e f =
    root_in_forest id items i t h e
    ∙ ap (λ b. b || has_root id (forest_of (drop (i + 1) items))) (yes_itself id (out-Tree t).id f)

pub root_is_behind : (id : ℕ) (items : List Tree) (i : ℕ) (t : Tree) → i < length items
    → t ≡ get_or items i t → ((out-Tree t).id ≡ id → ⊥)
    → has_root id (forest_of (drop i items)) ≡ has_root id (forest_of (drop (i + 1) items))
root_is_behind id items i t h e f =
    root_in_forest id items i t h e
    ∙ ap (λ b. b || has_root id (forest_of (drop (i + 1) items))) (no_other id (out-Tree t).id f)

-- the tree, if there is one
abbrev pub option_trees : Option Trees → Trees
option_trees None = none
option_trees (Some t) = t

-- what is found is the node, where no more than one can be
found_once : (test : ℕ → Trees → ℕ → Bool) (g : Trees) → width (nodes_where test g) ≤ 1
    → nodes_where test g ≡ option_trees (first_tree (nodes_where test g))
found_once test g e = by_shape (nodes_where test g) (those-pass test g) e
  where
    by_shape : (found : Trees) → Roots test found → width found ≤ 1
        → found ≡ option_trees (first_tree found)
    by_shape none p w = refl
    by_shape (node s i k l none) p w = refl
    by_shape (node s i k l (node s' i' k' l' r)) p w = absurd (omega arith)
    by_shape (node s i k l (hole r)) p w = absurd p.1
    by_shape (hole r) p w = absurd p

pub single_node : (id : ℕ) (g : Trees) → WellFormed g
    → nodes_where (numbered id) g ≡ option_trees (first_tree (nodes_where (numbered id) g))
single_node id g wf = found_once (numbered id) g
    (omega (arith, width-numbered id g, wf.nodes_once id))

pub single_list : (list : ℕ) (g : Trees) → WellFormed g
    → nodes_where (listed list) g ≡ option_trees (first_tree (nodes_where (listed list) g))
single_list list g wf = found_once (listed list) g
    (omega (arith, width-listed list g, wf.lists_once list))

-- a tree, a forest and its roots as they are walked
pub ruleset first_in_tree = (first_is_root, first_is_below)

pub ruleset first_in_turn = (first_is_there, first_is_behind)

pub ruleset roots_in_turn = (root_is_there, root_is_behind)
