-- A tree that is cut out of the trees of a forest, and those that hold no node with a number.
use Rattle.std.proofs.Common.{◌≡◌, ◌+◌, ◌-◌, ◌<◌, ℕ, List, length, get_or, take, drop, sym, ap, arith, ◌∙◌, length-drop}
use Rattle.std.proofs.lemmas.List.{take-append-drop, take_all}
use Rattle.model_shapes.specs.Sorts.{grove}
use Rattle.model_shapes.specs.Trees.{Trees, beside, fill, node_uses, root_uses, WellFormed}
use Rattle.model_shapes.specs.Shapes.{SameAt}
use Rattle.model_shapes.proofs.Basics.{node_uses-beside, root_uses-beside}
use Rattle.model_shapes.proofs.Shapes.{same-WellFormed}
use Rattle.model_shapes.proofs.Filling.{fill-left, inner-WellFormed, outer-WellFormed}
use Rattle.grove_data.specs.Trees.{tree_of, forest_of}
use Rattle.grove_data.specs.declared.trees.Tree.{Tree}
use Rattle.grove_data.proofs.Walks.{forest_at}
use Rattle.context_apply.specs.declared.contexts.Context.{Context}
use Rattle.context_apply.specs.Contexts.{context_thing}
use Rattle.context_apply.specs.Cuts.{IsCutFrom}
use Rattle.context_apply.proofs.Plain.{one-hole}
use Rattle.context_apply.proofs.Joined.{forest_of-append}
use Rattle.context_apply.proofs.Filled.{between-filled}

-- a tree without the number is passed over
pub passed-over : (id : ℕ) (trees : List Tree) (i : ℕ) (t : Tree) → i < length trees
    → t ≡ get_or trees i t → node_uses id (tree_of t) ≡ 0
    → node_uses id (forest_of (drop i trees)) ≡ node_uses id (forest_of (drop (i + 1) trees))
passed-over id trees i t h e z =
    ap (node_uses id) (forest_at trees i t h e)
    ∙ omega (arith, node_uses-beside id (tree_of t) (forest_of (drop (i + 1) trees)), z)

-- the trees before a place, that tree, and those behind it are all the trees
all-trees : (trees : List Tree) (i : ℕ) (t : Tree) → i < length trees → t ≡ get_or trees i t
    → beside (forest_of (take i trees)) (beside (tree_of t) (forest_of (drop (i + 1) trees)))
    ≡ forest_of trees
all-trees trees i t h e =
    ap (beside (forest_of (take i trees))) (sym (forest_at trees i t h e))
    ∙ sym (forest_of-append (take i trees) (drop i trees))
    ∙ ap forest_of (take-append-drop i trees)

-- a tree that is put back between the others gives all the trees
pub put-back : (trees left right : List Tree) (i : ℕ) (t : Tree) (inside cut : Trees)
    → i < length trees → t ≡ get_or trees i t
    → forest_of left ≡ forest_of (take i trees)
    → forest_of right ≡ forest_of (take (length trees - (i + 1)) (drop (i + 1) trees))
    → fill inside cut ≡ tree_of t
    → fill (beside (forest_of left) (beside inside (forest_of right))) cut ≡ forest_of trees
put-back trees left right i t inside cut h e l r f =
    let all : take (length trees - (i + 1)) (drop (i + 1) trees) ≡ drop (i + 1) trees =
    take_all (length trees - (i + 1)) (drop (i + 1) trees)
    (simp (length-drop) (omega arith)) in
    between-filled left right inside cut
    ∙ (λ j. beside (l j) (beside (f j) (r j)))
    ∙ ap (λ z. beside (forest_of (take i trees)) (beside (tree_of t) (forest_of z))) all
    ∙ all-trees trees i t h e

-- the order of roots has no meaning, so one may be put first
pub put-first : (left right rest : List Tree) (root : Trees)
    → forest_of rest ≡ beside (forest_of left) (forest_of right)
    → SameAt grove (beside root (forest_of rest))
    (beside (forest_of left) (beside root (forest_of right)))
put-first left right rest root e t =
    let a = forest_of left in let b = forest_of right in
    omega (
      arith,
      root_uses-beside t root (forest_of rest),
      ap (root_uses t) e,
      root_uses-beside t a b,
      root_uses-beside t a (beside root b),
      root_uses-beside t root b,
    )

-- and the tree is put back into it too
pub put-back-first : (outside other cut whole : Trees) → SameAt grove other outside
    → fill outside cut ≡ whole → SameAt grove (fill other cut) whole
put-back-first outside other cut whole same e t =
    fill-left grove other outside cut same t ∙ ap (root_uses t) e

-- what is cut out of something well formed, and what it leaves, are well formed
pub cut-proper : (whole : Trees) (id : ℕ) (outside : Context) (cut : Tree)
    → IsCutFrom whole id (outside, cut) → WellFormed whole
    → WellFormed (context_thing outside) × WellFormed (tree_of cut)
cut-proper whole id outside cut is w =
    let thing = context_thing outside in
    let filled : WellFormed (fill thing (tree_of cut)) =
    same-WellFormed grove whole (fill thing (tree_of cut)) (λ t. sym (is.0 t)) w in (
      outer-WellFormed thing (tree_of cut) filled,
      inner-WellFormed thing (tree_of cut) (one-hole outside).one filled,
    )
