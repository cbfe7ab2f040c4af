-- A tree that is moved, tree by tree.
use Rattle.std.proofs.Common.{◌≡◌, ℕ, ◌≤◌, ◌<◌, ◌+◌, Bool, true, false, cond, List, [], ◌∷◌, ◌++◌, length, get_or, drop, refl, sym, ap, ◌∙◌}
use Rattle.std.proofs.lemmas.List.{at_drop_all}
use Rattle.std.proofs.Math.Decide.{ℕ_discrete}
use Rattle.model_shapes.specs.Trees.{Trees, none, node, beside}
use Rattle.model_shapes.proofs.Basics.{beside-none, beside_assoc}
use Rattle.model_groves.specs.Groves.{is_yes, without, adding, adding_before}
use Rattle.model_groves.proofs.Groves.{without-beside, adding-beside, adding_before-beside}
use Rattle.grove_data.specs.Trees.{tree_of, forest_of}
use Rattle.grove_data.specs.Moving.{moving, below_here, before_here, in_front}
use Rattle.grove_data.specs.declared.changing.Place.{Place}
use Rattle.grove_data.specs.declared.changing.Place.TheVariants as p
use Rattle.grove_data.specs.declared.trees.Tree.{Tree, out-Tree}
use Rattle.grove_data.proofs.Walks.{tree_is, forest_at, root_at_end}
use Rattle.grove_data.proofs.FirstFound.{yes_itself, no_other}

module _ (place : Place) (number : ℕ) (more : Trees) where
  -- two lists are changed one by one
  moving-beside : (a b : Trees) → moving place number more (beside a b)
      ≡ beside (moving place number more a) (moving place number more b)
  moving-beside a b = by_place place
    where
      by_place : (p : Place) → moving p number more (beside a b)
          ≡ beside (moving p number more a) (moving p number more b)
      by_place p.Nowhere = without-beside number a b
      by_place (p.Below n) =
          ap (adding n more) (without-beside number a b)
          ∙ adding-beside n more (without number a) (without number b)
      by_place (p.Before n) =
          ap (adding_before n more) (without-beside number a b)
          ∙ adding_before-beside n more (without number a) (without number b)

  -- the tree at a place, and those behind it
  at-place : (items : List Tree) (i : ℕ) (t : Tree) → i < length items → t ≡ get_or items i t
      → moving place number more (forest_of (drop i items))
      ≡ beside (moving place number more (tree_of t))
      (moving place number more (forest_of (drop (i + 1) items)))
  at-place items i t h e =
      ap (moving place number more) (forest_at items i t h e)
      ∙ moving-beside (tree_of t) (forest_of (drop (i + 1) items))

  -- what is put in front of a tree stands behind those before it
  put_first : (before : Trees) (b : Bool) (x : Trees)
      → beside (cond b (beside before more) before) x ≡ beside before (beside (cond b more none) x)
  put_first before true x = beside_assoc before more x
  put_first before false x = refl

  -- a tree that stays is put behind those before it
  pub one_stays : (done found items : List Tree) (i : ℕ) (t x : Tree) → i < length items
      → t ≡ get_or items i t
      → forest_of found ≡ cond (before_here place (out-Tree t).id) (beside (forest_of done) more)
      (forest_of done)
      → beside (in_front place (out-Tree t).id more) (tree_of x)
      ≡ moving place number more (tree_of t)
      → beside (forest_of (found ++ x ∷ []))
      (moving place number more (forest_of (drop (i + 1) items)))
      ≡ beside (forest_of done) (moving place number more (forest_of (drop i items)))
  one_stays done found items i t x h e f g =
      let behind = moving place number more (forest_of (drop (i + 1) items)) in
      let here = before_here place (out-Tree t).id in
      ap (λ z. beside z behind) (root_at_end found x ∙ ap (λ z. beside z (tree_of x)) f
      ∙ put_first (forest_of done) here (tree_of x)
      ∙ ap (beside (forest_of done)) g)
      ∙ beside_assoc (forest_of done) (moving place number more (tree_of t)) behind
      ∙ ap (beside (forest_of done)) (sym (at-place items i t h e))

  -- the tree of the number isn't
  pub one_goes : (items : List Tree) (i : ℕ) (t : Tree) → i < length items
      → t ≡ get_or items i t → (out-Tree t).id ≡ number
      → moving place number more (forest_of (drop i items))
      ≡ moving place number more (forest_of (drop (i + 1) items))
  one_goes items i t h e f =
      at-place items i t h e
      ∙ ap (λ z. beside z (moving place number more (forest_of (drop (i + 1) items)))) gone
    where
      gone : moving place number more (tree_of t) ≡ none
      gone = by_place place
        where
          empty : without number (tree_of t) ≡ none
          empty = ap (without number) (tree_is t)
              ∙ ap (λ b. cond b none (node (out-Tree t).name (out-Tree t).id
              (without number (forest_of (out-Tree t).kids)) (out-Tree t).list none))
              (yes_itself number (out-Tree t).id f)

          by_place : (p : Place) → moving p number more (tree_of t) ≡ none
          by_place p.Nowhere = empty
          by_place (p.Below n) = ap (adding n more) empty
          by_place (p.Before n) = ap (adding_before n more) empty

-- a tree that stays keeps its fields
pub stays_by_fields : (place : Place) (number : ℕ) (more : Trees) (t : Tree)
    → ((out-Tree t).id ≡ number → ⊥)
    → moving place number more (tree_of t) ≡ beside (in_front place (out-Tree t).id more)
    (node (out-Tree t).name (out-Tree t).id
    (cond (below_here place (out-Tree t).id)
    (beside (moving place number more (forest_of (out-Tree t).kids)) more)
    (moving place number more (forest_of (out-Tree t).kids))) (out-Tree t).list none)
stays_by_fields place number more t f = by_place place
  where
    here : without number (tree_of t) ≡ node (out-Tree t).name (out-Tree t).id
        (without number (forest_of (out-Tree t).kids)) (out-Tree t).list none
    here = ap (without number) (tree_is t)
        ∙ ap (λ b. cond b none (node (out-Tree t).name (out-Tree t).id
        (without number (forest_of (out-Tree t).kids)) (out-Tree t).list none))
        (no_other number (out-Tree t).id f)

    either : (b : Bool) (x : Trees) → cond b (beside more x) x ≡ beside (cond b more none) x
    either true x = refl
    either false x = refl

    by_place : (p : Place) → moving p number more (tree_of t)
        ≡ beside (in_front p (out-Tree t).id more) (node (out-Tree t).name (out-Tree t).id
        (cond (below_here p (out-Tree t).id)
        (beside (moving p number more (forest_of (out-Tree t).kids)) more)
        (moving p number more (forest_of (out-Tree t).kids))) (out-Tree t).list none)
    by_place p.Nowhere = here
    by_place (p.Below n) = ap (adding n more) here
    by_place (p.Before n) =
        ap (adding_before n more) here
        ∙ either (is_yes (ℕ_discrete n (out-Tree t).id)) _

-- behind the last tree
pub all_moved : (place : Place) (number : ℕ) (more : Trees) (done items : List Tree) (i : ℕ)
    → length items ≤ i
    → beside (forest_of done) (moving place number more (forest_of (drop i items)))
    ≡ forest_of done
all_moved place number more done items i h =
    at_drop_all (λ z. beside (forest_of done) (moving place number more (forest_of z))) items i h
    ∙ by_place place ∙ beside-none (forest_of done)
  where
    by_place : (p : Place) → beside (forest_of done) (moving p number more none)
        ≡ beside (forest_of done) none
    by_place p.Nowhere = refl
    by_place (p.Below n) = refl
    by_place (p.Before n) = refl

pub ruleset moved_in_turn = (one_stays, one_goes, all_moved)

pub ruleset moved_by_fields = (stays_by_fields, root_at_end)
