-- What stands in a context is determined up to sameness by the whole.
use Rattle.std.proofs.Common.{◌≡◌, ℕ, zero, suc, ◌≤◌, ◌*◌, sym, refl, ap, arith, ◌∙◌, List}
use Rattle.model_shapes.specs.Trees.{Trees, none, node, hole, beside, fill, width, root_uses, one_if, trees_eq}
use Rattle.model_shapes.specs.Shapes.{holes, SameAt, OneHole, HasWidth}
use Rattle.model_shapes.specs.RootHoles.{root_holes}
use Rattle.model_shapes.specs.Sorts.{DataSort, tree, forest, grove}
use Rattle.model_shapes.proofs.Basics.{width-beside, root_uses-beside, fill-no_hole}
use Rattle.model_shapes.proofs.Truth.{false≢true}
use Rattle.model_shapes.proofs.Sameness.{SameGrove}
use Rattle.model_shapes.proofs.Shapes.{root_holes-le, hole-root}
use Rattle.model_shapes.proofs.Narrow.{narrow}
use Rattle.model_shapes.proofs.Filling.{swap_in, grove_hole, grove_root}

-- equal nodes have equal roots behind them
pub node-rest : (s s' : List ℕ) (i i' : ℕ) (k k' : Trees) (l l' : ℕ) (r r' : Trees)
    → node s i k l r ≡ node s' i' k' l' r' → r ≡ r'
node-rest s s' i i' k k' l l' r r' e = cc

-- equal children
pub node-kids : (s s' : List ℕ) (i i' : ℕ) (k k' : Trees) (l l' : ℕ) (r r' : Trees)
    → node s i k l r ≡ node s' i' k' l' r' → k ≡ k'
node-kids s s' i i' k k' l l' r r' e = cc

-- and stay equal with other equal roots behind them
pub node-head : (s s' : List ℕ) (i i' : ℕ) (k k' : Trees) (l l' : ℕ) (r r' q q' : Trees)
    → node s i k l r ≡ node s' i' k' l' r' → q ≡ q' → node s i k l q ≡ node s' i' k' l' q'
node-head s s' i i' k k' l l' r r' q q' e f = cc

hole-rest : (r r' : Trees) → hole r ≡ hole r' → r ≡ r'
hole-rest r r' e = cc

node≢hole : (s : List ℕ) (i : ℕ) (k : Trees) (l : ℕ) (r r' : Trees) → node s i k l r ≡ hole r' → ⊥
node≢hole s i k l r r' e = cc

-- the same list behind both
pub beside-cancel : (a b r : Trees) → beside a r ≡ beside b r → a ≡ b
beside-cancel none none r e = refl
beside-cancel none (node s i k l b) r e = absurd (omega (arith, ap width e, width-beside b r))
beside-cancel none (hole b) r e = absurd (omega (arith, ap width e, width-beside b r))
beside-cancel (node s i k l a) none r e = absurd (omega (arith, ap width e, width-beside a r))
beside-cancel (hole a) none r e = absurd (omega (arith, ap width e, width-beside a r))
beside-cancel (node s i k l a) (node s' i' k' l' b) r e =
    node-head s s' i i' k k' l l' (beside a r) (beside b r) a b e
    (beside-cancel a b r (node-rest s s' i i' k k' l l' (beside a r) (beside b r) e))
beside-cancel (node s i k l a) (hole b) r e = absurd (node≢hole s i k l (beside a r) (beside b r) e)
beside-cancel (hole a) (node s i k l b) r e =
    absurd (node≢hole s i k l (beside b r) (beside a r) (sym e))
beside-cancel (hole a) (hole b) r e =
    ap hole (beside-cancel a b r (hole-rest (beside a r) (beside b r) e))

-- trees and forests
pub fill-cancel : (c a b : Trees) → holes c ≡ 1 → fill c a ≡ fill c b → a ≡ b
fill-cancel none a b o e = absurd (omega arith)
fill-cancel (hole r) a b o e =
    let z : holes r ≡ 0 = omega arith in
    beside-cancel a b r (ap (beside a) (sym (fill-no_hole r a z)) ∙ e
    ∙ ap (beside b) (fill-no_hole r b z))
fill-cancel (node s i k l r) a b o e =
    by_holes (holes k) refl (fill-cancel k a b) (fill-cancel r a b)
  where
    by_holes : (n : ℕ) → holes k ≡ n → (holes k ≡ 1 → fill k a ≡ fill k b → a ≡ b)
        → (holes r ≡ 1 → fill r a ≡ fill r b → a ≡ b) → a ≡ b
    by_holes zero z ink inr' =
        inr' (omega arith) (node-rest s s i i (fill k a) (fill k b) l l (fill r a) (fill r b) e)
    by_holes (suc n) z ink inr' =
        ink (omega arith) (node-kids s s i i (fill k a) (fill k b) l l (fill r a) (fill r b) e)

-- groves, where the hole is for a tree or a forest
pub fill-cancel-grove : (c a b : Trees) → holes c ≡ 1 → (root_holes c ≡ 1 → width a ≤ 1)
    → SameGrove (fill c a) (fill c b) → a ≡ b
fill-cancel-grove none a b o one e = absurd (omega arith)
fill-cancel-grove (hole r) a b o one e =
    let z : holes r ≡ 0 = omega arith in
    let le : root_holes r ≤ holes r = root_holes-le r in
    narrow a b (one (omega arith)) (λ t. omega (
      arith,
      e t,
      root_uses-beside t a (fill r a),
      root_uses-beside t b (fill r b),
      ap (root_uses t) (fill-no_hole r a z),
      ap (root_uses t) (fill-no_hole r b z),
    ))
fill-cancel-grove (node s i k l r) a b o one e = by_holes (holes k) refl (fill-cancel-grove r a b)
  where
    by_holes : (n : ℕ) → holes k ≡ n
        → (holes r ≡ 1 → (root_holes r ≡ 1 → width a ≤ 1) → SameGrove (fill r a) (fill r b)
        → a ≡ b) → a ≡ b
    by_holes zero z rec = rec (omega arith) one (λ t. omega (
      arith,
      e t,
      ap (λ x. one_if (trees_eq t (node s i x l none))) (fill-no_hole k a z),
      ap (λ x. one_if (trees_eq t (node s i x l none))) (fill-no_hole k b z),
    ))
    by_holes (suc n) z rec =
        let y : holes r ≡ 0 = omega arith in
        let same : SameGrove (node s i (fill k a) l none) (node s i (fill k b) l none) =
        λ t. omega (
          arith,
          e t,
          ap (root_uses t) (fill-no_hole r a y),
          ap (root_uses t) (fill-no_hole r b y),
        ) in
        fill-cancel k a b (omega arith)
        (node-kids s s i i (fill k a) (fill k b) l l none none
        (narrow (node s i (fill k a) l none) (node s i (fill k b) l none) (omega arith) same))

-- every hole and every result
pub cancel : (h k : DataSort) (c a b : Trees) → OneHole h k c → HasWidth h (width a)
    → SameAt k (fill c a) (fill c b) → SameAt h a b
cancel tree tree c a b o w e = fill-cancel c a b o.one e
cancel tree forest c a b o w e = fill-cancel c a b o.one e
cancel tree grove c a b o w e = fill-cancel-grove c a b o.one (λ z. omega (arith, w)) e
cancel forest tree c a b o w e = fill-cancel c a b o.one e
cancel forest forest c a b o w e = fill-cancel c a b o.one e
cancel forest grove c a b o w e =
    fill-cancel-grove c a b o.one (λ z. false≢true (hole-root o z)) e
cancel grove tree c a b o w e = false≢true (hole-root o (grove_root tree c o))
cancel grove forest c a b o w e = false≢true (hole-root o (grove_root forest c o))
cancel grove grove c a b o w e = λ t.
    let z : root_holes c ≡ 1 = grove_root grove c o in
    omega (
      arith,
      swap_in t c a b (grove_hole grove c o),
      e t,
      ap (λ n. n * root_uses t a) z,
      ap (λ n. n * root_uses t b) z,
    )
