-- A node that is data in a context is found in the grove, and so are its children and its parent.
use Rattle.std.proofs.Common.{◌≡◌, ℕ, suc, ◌≤◌, ◌+◌, ◌*◌, List, Bool, true, false, ◌||◌, refl, sym, ap, ◌∙◌, subst, arith}
use Rattle.std.proofs.Math.Decide.{ℕ_discrete}
use Rattle.model_shapes.specs.Shapes.{holes}
use Rattle.model_shapes.specs.Trees.{Trees, none, node, hole, beside, fill, width, node_uses, WellFormed}
use Rattle.model_shapes.specs.Values.{node_number}
use Rattle.model_shapes.proofs.Basics.{fill-beside, fill-no_hole, beside-none, holes-beside, fill-fill, holes-fill, node_uses-beside, beside_assoc}
use Rattle.model_shapes.proofs.Filling.{inner-WellFormed}
use Rattle.model_groves.specs.Groves.{nodes_where, has_root, numbered, listed, parental, number_at}
use Rattle.model_groves.specs.Groves.{is_yes}
use Rattle.model_groves.proofs.InContext.{numbered-fill, context-apart, copies-one, listed-fill, context-lists-apart, not-here, parental-fill}
use Rattle.model_groves.proofs.Decided.{yes-is}
use Rattle.triple_laws.proofs.Here.{numbered-here, listed-here, lists-here, uses-here, parental-here}

-- a node with a child, and with a hole for a child, between others
abbrev pub parent_tree : List ℕ → ℕ → Trees → Trees → Trees → ℕ → Trees
parent_tree s i a child b l = node s i (beside (beside a child) b) l none

abbrev pub around : List ℕ → ℕ → Trees → Trees → ℕ → Trees
around s i a b l = parent_tree s i a (hole none) b l

fill-around : (s : List ℕ) (i : ℕ) (a b : Trees) (l : ℕ) (t : Trees) → holes a ≡ 0 → holes b ≡ 0
    → fill (around s i a b l) t ≡ parent_tree s i a t b l
fill-around s i a b l t ha hb =
    ap (λ z. node s i z l none)
    (fill-beside (beside a (hole none)) b t ∙ (λ y. beside (left y) (fill-no_hole b t hb y)))
  where
    left : fill (beside a (hole none)) t ≡ beside a t
    left = fill-beside a (hole none) t ∙ (λ y. beside (fill-no_hole a t ha y) (beside-none t y))

holes-around : (s : List ℕ) (i : ℕ) (a b : Trees) (l : ℕ) → holes a ≡ 0 → holes b ≡ 0
    → holes (around s i a b l) ≡ 1
holes-around s i a b l ha hb =
    omega (arith, holes-beside (beside a (hole none)) b, holes-beside a (hole none))

-- a child is among the children, and stands at its place
pub has_root-in : (a : Trees) (s : List ℕ) (j : ℕ) (k : Trees) (l : ℕ) (b : Trees)
    → has_root j (beside a (node s j k l b)) ≡ true
has_root-in none s j k l b = ap (λ q. q || has_root j b) (yes-is (ℕ_discrete j j) refl)
has_root-in (hole r) s j k l b = has_root-in r s j k l b
has_root-in (node s' i' k' l' r) s j k l b =
    ap (λ q. is_yes (ℕ_discrete j i') || q) (has_root-in r s j k l b)
    ∙ or-true (is_yes (ℕ_discrete j i'))
  where
    or-true : (q : Bool) → (q || true) ≡ true
    or-true true = refl
    or-true false = refl

pub number-in : (a : Trees) (s : List ℕ) (j : ℕ) (k : Trees) (l : ℕ) (b : Trees) → holes a ≡ 0
    → number_at (width a) (beside a (node s j k l b)) ≡ node_number j
number-in none s j k l b h = refl
number-in (hole r) s j k l b h = absurd (omega arith)
number-in (node s' i' k' l' r) s j k l b h =
    subst (λ n. number_at n (node s' i' k' l' (beside r (node s j k l b))) ≡ node_number j)
    (let e : suc (width r) ≡ 1 + width r = omega arith in e) (number-in r s j k l b (omega arith))

-- the data is found by its number and by its list number
module _ (c : Trees) (s : List ℕ) (i : ℕ) (k : Trees) (l : ℕ) (one : holes c ≡ 1)
    (w : WellFormed (fill c (node s i k l none)))
  where
    abbrev piece : Trees
    piece = node s i k l none

    pub found-in : nodes_where (numbered i) (fill c piece) ≡ piece
    found-in =
        numbered-fill i piece c (context-apart i c piece one w (uses-here s i k l))
        ∙ copies-one (holes c) (nodes_where (numbered i) piece) one ∙ numbered-here s i k l

    pub listed-in : nodes_where (listed l) (fill c piece) ≡ piece
    listed-in =
        listed-fill l piece c (context-lists-apart l c piece one w (lists-here s i k l))
        ∙ copies-one (holes c) (nodes_where (listed l) piece) one ∙ listed-here s i k l

-- a child of the data is found, and so is its parent
module _ (c : Trees) (one : holes c ≡ 1) (s : List ℕ) (i : ℕ) (a b : Trees) (l : ℕ) (s' : List ℕ)
    (j : ℕ) (k' : Trees) (l' : ℕ) (ha : holes a ≡ 0) (hb : holes b ≡ 0)
    (w : WellFormed (fill c (parent_tree s i a (node s' j k' l' none) b l)))
  where
    abbrev child : Trees
    child = node s' j k' l' none

    abbrev parent : Trees
    parent = parent_tree s i a child b l

    abbrev children : Trees
    children = beside (beside a child) b

    in-around : fill c parent ≡ fill (fill c (around s i a b l)) child
    in-around =
        ap (fill c) (sym (fill-around s i a b l child ha hb))
        ∙ sym (fill-fill c (around s i a b l) child)

    one-around : holes (fill c (around s i a b l)) ≡ 1
    one-around =
        omega (
          arith,
          holes-fill c (around s i a b l),
          one,
          holes-around s i a b l ha hb,
          ap (λ z. z * holes (around s i a b l)) one,
        )

    pub child-found : nodes_where (numbered j) (fill c parent) ≡ child
    child-found =
        ap (nodes_where (numbered j)) in-around
        ∙ found-in (fill c (around s i a b l)) s' j k' l' one-around (subst WellFormed in-around w)

    child-used : 1 ≤ node_uses j children
    child-used =
        omega (
          arith,
          node_uses-beside j (beside a child) b,
          node_uses-beside j a child,
          uses-here s' j k' l',
        )

    parent-formed : WellFormed parent
    parent-formed = inner-WellFormed c parent one w

    not-root : has_root j parent ≡ false
    not-root =
        ap (λ q. q || false) (not-here j i (omega (arith, child-used, parent-formed.nodes_once j)))

    child-among : has_root j children ≡ true
    child-among = ap (has_root j) (beside_assoc a child b) ∙ has_root-in a s' j k' l' b

    pub parent-found : nodes_where (parental j) (fill c parent) ≡ parent
    parent-found =
        parental-fill j parent not-root c (context-apart j c parent one w
        (omega (arith, child-used)))
        ∙ copies-one (holes c) (nodes_where (parental j) parent) one
        ∙ parental-here s i children l j child-among
