-- The first number of a forest that is out of range.
use Rattle.std.proofs.Common.{◌<◌, ◌+◌, length, get_or, drop, ◌≡◌, ℕ, Bool, true, false, List, [], ◌∷◌, ◌++◌, cond, Option, Some, None, refl, sym, ap, ◌∙◌, append_assoc}
use Rattle.std.specs.Prelude.{not}
use Rattle.std.specs.List.{find}
use Rattle.model_shapes.specs.Trees.{Trees, none, node, hole, beside}
use Rattle.model_documents.specs.Numbers.{Numbered, node_numbered, list_numbered, numbers_written, is_in_range, first_out_of_range}
use Rattle.logic_text.proofs.ListLemmas.{drop_item}
use Rattle.logic_text.specs.declared.raw_groves.RawTree.{RawTree, out-RawTree}
use Rattle.logic_text.specs.declared.raw_groves.RawTree.TheFolds.{fold_out-RawTree}
use Rattle.logic_text.specs.declared.ranges.RangeFault.{RangeFault}
use Rattle.logic_text.specs.declared.ranges.RangeFault.TheVariants.{OutOfRange, OutOfMemory}
use Rattle.logic_text.specs.RawGroves.{raw_tree_step, raw_tree_of, raw_forest_of}
use Rattle.logic_text.specs.Ranges.{Tells}

-- the first of the front, or else of the rest
find_before : {X : Type 0} (p : X → Bool) (xs ys : List X) (y : X) → find p xs ≡ Some y
    → find p (xs ++ ys) ≡ Some y
find_before p [] ys y e = absurd cc
find_before {X} p (x ∷ xs) ys y e = by_test (p x) e (find_before p xs ys y)
  where
    by_test : (b : Bool) → cond b (Some x) (find p xs) ≡ Some y
        → (find p xs ≡ Some y → find p (xs ++ ys) ≡ Some y) → cond b (Some x) (find p (xs ++ ys))
        ≡ Some y
    by_test true h f = h
    by_test false h f = f h

find_behind : {X : Type 0} (p : X → Bool) (xs ys : List X) → find p xs ≡ None
    → find p (xs ++ ys) ≡ find p ys
find_behind p [] ys e = refl
find_behind {X} p (x ∷ xs) ys e = by_test (p x) e (find_behind p xs ys)
  where
    by_test : (b : Bool) → cond b (Some x) (find p xs) ≡ None
        → (find p xs ≡ None → find p (xs ++ ys) ≡ find p ys) → cond b (Some x) (find p (xs ++ ys))
        ≡ find p ys
    by_test true h f = absurd cc
    by_test false h f = f h

numbers_beside : (a b : Trees) → numbers_written (beside a b) ≡ numbers_written a
    ++ numbers_written b
numbers_beside none b = refl
numbers_beside (node name number kids list rest) b =
    ap (λ (z : List Numbered). node_numbered number
    ∷ (numbers_written kids ++ (list_numbered list ∷ z))) (numbers_beside rest b)
    ∙ ap (λ (z : List Numbered). node_numbered number ∷ z)
    (sym (append_assoc (numbers_written kids) (list_numbered list ∷ numbers_written rest)
    (numbers_written b)))
numbers_beside (hole rest) b = numbers_beside rest b

abbrev out : Numbered → Bool
out n = not (is_in_range n)

-- the first tree has it, or it is that of the others
pub first_before : (a b : Trees) (x : Numbered) → first_out_of_range a ≡ Some x
    → first_out_of_range (beside a b) ≡ Some x
first_before a b x e = ap (find out) (numbers_beside a b)
    ∙ find_before out (numbers_written a) (numbers_written b) x e

pub first_behind : (a b : Trees) → first_out_of_range a ≡ None → first_out_of_range (beside a b)
    ≡ first_out_of_range b
first_behind a b e = ap (find out) (numbers_beside a b)
    ∙ find_behind out (numbers_written a) (numbers_written b) e

-- ---- a tree

raw_tree_is : (t : RawTree) → raw_tree_of t ≡ node (out-RawTree t).name (out-RawTree t).id
    (raw_forest_of (out-RawTree t).kids) (out-RawTree t).list none
raw_tree_is t = fold_out-RawTree Trees raw_tree_step t

module _ (t : RawTree) where
  -- one of the children's
  pub first_kids : (x : Numbered) → is_in_range (node_numbered (out-RawTree t).id) ≡ true
      → first_out_of_range (raw_forest_of (out-RawTree t).kids) ≡ Some x
      → first_out_of_range (raw_tree_of t) ≡ Some x
  first_kids x e k = rw (raw_tree_is t, e)
      (find_before out (numbers_written (raw_forest_of (out-RawTree t).kids))
      (list_numbered (out-RawTree t).list ∷ []) x k)

  -- that of the list
  pub first_list : is_in_range (node_numbered (out-RawTree t).id) ≡ true
      → first_out_of_range (raw_forest_of (out-RawTree t).kids) ≡ None
      → is_in_range (list_numbered (out-RawTree t).list) ≡ false
      → first_out_of_range (raw_tree_of t) ≡ Some (list_numbered (out-RawTree t).list)
  first_list e k h =
      rw (raw_tree_is t, e) (find_behind out (numbers_written (raw_forest_of (out-RawTree t).kids))
      (list_numbered (out-RawTree t).list ∷ []) k ∙ rw h refl)

  -- none
  pub first_none : is_in_range (node_numbered (out-RawTree t).id) ≡ true
      → first_out_of_range (raw_forest_of (out-RawTree t).kids) ≡ None
      → is_in_range (list_numbered (out-RawTree t).list) ≡ true
      → first_out_of_range (raw_tree_of t) ≡ None
  first_none e k h =
      rw (raw_tree_is t, e) (find_behind out (numbers_written (raw_forest_of (out-RawTree t).kids))
      (list_numbered (out-RawTree t).list ∷ []) k ∙ rw h refl)

-- what was told of some numbers, where they are those of the whole
pub tells_same : (e : RangeFault) (first whole : Option Numbered)
    → ((x : Numbered) → first ≡ Some x → whole ≡ Some x) → Tells e first → Tells e whole
tells_same (OutOfRange kind number) first whole f h = f _ h
tells_same OutOfMemory first whole f h = tt

-- ---- a loop

module _ (items : List RawTree) (i : ℕ) (item : RawTree) (whole : Option Numbered)
    (lt : i < length items) (is : item ≡ get_or items i item)
    (left : first_out_of_range (raw_forest_of (drop i items)) ≡ whole) where
  item_and_others : first_out_of_range
      (beside (raw_tree_of item) (raw_forest_of (drop (i + 1) items))) ≡ whole
  item_and_others = sym (ap (λ (z : List RawTree). first_out_of_range (raw_forest_of z))
      (drop_item items i item lt is)) ∙ left

  pub told_of_item : (e : RangeFault) → Tells e (first_out_of_range (raw_tree_of item))
      → Tells e whole
  told_of_item e h = tells_same e _ whole
      (λ x f. sym item_and_others ∙ first_before (raw_tree_of item)
      (raw_forest_of (drop (i + 1) items)) x f) h

  pub none_in_item : first_out_of_range (raw_tree_of item) ≡ None
      → first_out_of_range (raw_forest_of (drop (i + 1) items)) ≡ whole
  none_in_item h = sym (first_behind (raw_tree_of item) (raw_forest_of (drop (i + 1) items)) h)
      ∙ item_and_others
