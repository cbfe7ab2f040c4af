-- The text of trees between marks, tree by tree.
use Rattle.std.proofs.Common.{◌≡◌, ℕ, ◌+◌, ◌<◌, List, [], ◌∷◌, ◌++◌, length, get_or, drop, refl, sym, ap, ◌∙◌, append_assoc, codes}
use Rattle.model_shapes.specs.Trees.{Trees, none, node, hole, beside}
use Rattle.model_documents.specs.Printed.{tree_text, forest_text, further_trees, grove_text, further_roots}
use Rattle.grove_data.specs.declared.trees.Tree.{Tree, out-Tree}
use Rattle.grove_data.specs.declared.trees.Tree.TheFolds.{fold_out-Tree}
use Rattle.grove_data.specs.Trees.{tree_step, tree_of, forest_of}
use Rattle.logic_text.proofs.ListLemmas.{drop_item}
use Rattle.logic_text.specs.Marks.{inner_text, marked_text}

pub tree_is : (t : Tree) → tree_of t ≡ node (out-Tree t).name (out-Tree t).id
    (forest_of (out-Tree t).kids) (out-Tree t).list none
tree_is t = fold_out-Tree Trees tree_step t

-- a tree and the others
marked-beside : (left next_left right : List ℕ) (t : Tree) (others : Trees)
    → marked_text left next_left right (beside (tree_of t) others) ≡ left
    ++ (inner_text (tree_of t) ++ (right ++ marked_text next_left next_left right others))
marked-beside left next_left right t others = rw (tree_is t) refl

further-marked : (a : Trees) → further_trees a ≡ marked_text (codes " * <") (codes " * <")
    (codes ">") a
further-marked none = refl
further-marked (node name number kids list rest) =
    ap (λ (z : List ℕ). codes " * <"
    ++ (tree_text name number (forest_text kids) list ++ (codes ">" ++ z)))
    (further-marked rest)
further-marked (hole rest) = further-marked rest

roots-marked : (a : Trees) → further_roots a ≡ marked_text (codes " + [") (codes " + [")
    (codes "]") a
roots-marked none = refl
roots-marked (node name number kids list rest) =
    ap (λ (z : List ℕ). codes " + ["
    ++ (tree_text name number (forest_text kids) list ++ (codes "]" ++ z))) (roots-marked rest)
roots-marked (hole rest) = roots-marked rest

-- the text of a forest and of a grove with a tree in it
pub forest-marked : (forest : List Tree) → (forest ≡ [] → ⊥)
    → marked_text (codes "<") (codes " * <") (codes ">") (forest_of forest)
    ≡ forest_text (forest_of forest)
forest-marked [] some = absurd (some refl)
forest-marked (t ∷ forest) some = rw (tree_is t, further-marked (forest_of forest)) refl

pub grove-marked : (grove : List Tree) → (grove ≡ [] → ⊥)
    → marked_text (codes "[") (codes " + [") (codes "]") (forest_of grove)
    ≡ grove_text (forest_of grove)
grove-marked [] some = absurd (some refl)
grove-marked (t ∷ grove) some = rw (tree_is t, roots-marked (forest_of grove)) refl

-- ---- a loop

pub goes_on : (left next_left right : List ℕ) (items : List Tree) (i : ℕ) (item : Tree)
    (text whole : List ℕ) → i < length items → item ≡ get_or items i item
    → text ++ marked_text left next_left right (forest_of (drop i items)) ≡ whole
    → (((text ++ left) ++ inner_text (tree_of item)) ++ right)
    ++ marked_text next_left next_left right (forest_of (drop (i + 1) items)) ≡ whole
goes_on left next_left right items i item text whole lt is so_far =
    simp append_assoc
    (ap (λ (z : List ℕ). text ++ z)
    (sym (ap (λ (z : List Tree). marked_text left next_left right (forest_of z))
    (drop_item items i item lt is) ∙ marked-beside left next_left right item
    (forest_of (drop (i + 1) items)))) ∙ so_far)
