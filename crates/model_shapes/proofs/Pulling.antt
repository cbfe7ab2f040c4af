-- What stands in a context can be computed from the context and the whole grove.
use Rattle.std.proofs.Common.{◌≡◌, ℕ, zero, suc, ◌≤◌, ◌+◌, ◌-◌, refl, sym, ap, ◌∙◌, arith}
use Rattle.model_shapes.specs.Trees.{Trees, none, node, hole, beside, fill, width, root_uses, one_if, trees_eq}
use Rattle.model_shapes.specs.Shapes.{holes, SameAt, Shaped}
use Rattle.model_shapes.specs.RootHoles.{root_holes}
use Rattle.model_shapes.specs.Sorts.{shape, context, DataSort, tree, forest, grove}
use Rattle.model_shapes.proofs.Basics.{beside-none, width-beside, root_uses-beside, fill-no_hole}
use Rattle.model_shapes.proofs.Truth.{false≢true}
use Rattle.model_shapes.proofs.Sameness.{SameGrove, one_if_self}
use Rattle.model_shapes.proofs.Shapes.{root_holes-le, hole-root}
use Rattle.model_shapes.proofs.Narrow.{narrow}
use Rattle.model_shapes.proofs.Filling.{grove_hole}

abbrev keep_unless : {t u : Trees} → Dec (t ≡ u) → Trees → Trees → Trees
keep_unless (yes e) rest kept = rest
keep_unless (no n) rest kept = kept

-- the grove without one root that is this tree
pub remove_one : Trees → Trees → Trees
remove_one t none = none
remove_one t (node s i k l r) =
    keep_unless (trees_eq t (node s i k l none)) r (node s i k l (remove_one t r))
remove_one t (hole r) = keep_unless (trees_eq t (hole none)) r (hole (remove_one t r))

-- it has one less of that tree
pub removed : (t g u : Trees) → 1 ≤ root_uses t g → root_uses u (remove_one t g) + root_uses u t
    ≡ root_uses u g
unfolding remove_one
removed t none u h = absurd (omega arith)
removed t (node s i k l r) u h = by_case (trees_eq t (node s i k l none)) h (removed t r u)
  where
    by_case : (d : Dec (t ≡ node s i k l none)) → 1 ≤ one_if d + root_uses t r
        → (1 ≤ root_uses t r → root_uses u (remove_one t r) + root_uses u t ≡ root_uses u r)
        → root_uses u (keep_unless d r (node s i k l (remove_one t r))) + root_uses u t
        ≡ root_uses u (node s i k l r)
    by_case (yes e) h rec = omega (arith, ap (root_uses u) e)
    by_case (no n) h rec = omega (arith, rec (omega arith))
removed t (hole r) u h = by_case (trees_eq t (hole none)) h (removed t r u)
  where
    by_case : (d : Dec (t ≡ hole none)) → 1 ≤ one_if d + root_uses t r
        → (1 ≤ root_uses t r → root_uses u (remove_one t r) + root_uses u t ≡ root_uses u r)
        → root_uses u (keep_unless d r (hole (remove_one t r))) + root_uses u t
        ≡ root_uses u (hole r)
    by_case (yes e) h rec = omega (arith, ap (root_uses u) e)
    by_case (no n) h rec = omega (arith, rec (omega arith))

minus : Trees → Trees → Trees
minus g none = g
minus g (node s i k l r) = minus (remove_one (node s i k l none) g) r
minus g (hole r) = minus (remove_one (hole none) g) r

-- so what is the same as the tree and a rest is then the same as the rest
pub less_one : (t g rest : Trees) → root_uses t t ≡ 1 → SameGrove g (beside t rest)
    → SameGrove (remove_one t g) rest
less_one t g rest self h u =
    let here : 1 ≤ root_uses t g = omega (arith, h t, root_uses-beside t t rest, self) in
    omega (arith, removed t g u here, h u, root_uses-beside u t rest)

minus-beside : (r g b : Trees) → SameGrove g (beside b r) → SameGrove (minus g r) b
unfolding minus
minus-beside none g b h = λ u. h u ∙ ap (root_uses u) (beside-none b)
minus-beside (node s i k l r) g b h = minus-beside r (remove_one (node s i k l none) g) b
    (less_one (node s i k l none) g (beside b r) (omega (arith, one_if_self (node s i k l none)))
    (λ u. omega (
      arith,
      h u,
      root_uses-beside u b (node s i k l r),
      root_uses-beside u (node s i k l none) (beside b r),
      root_uses-beside u b r,
    )))
minus-beside (hole r) g b h = minus-beside r (remove_one (hole none) g) b
    (less_one (hole none) g (beside b r) (omega (arith, one_if_self (hole none)))
    (λ u. omega (
      arith,
      h u,
      root_uses-beside u b (hole r),
      root_uses-beside u (hole none) (beside b r),
      root_uses-beside u b r,
    )))

front : ℕ → Trees → Trees
front zero g = none
front (suc n) none = none
front (suc n) (node s i k l r) = node s i k l (front n r)
front (suc n) (hole r) = hole (front n r)

front-beside : (b r : Trees) (n : ℕ) → n ≡ width b → front n (beside b r) ≡ b
unfolding front
front-beside none r zero e = refl
front-beside none r (suc n) e = absurd (omega arith)
front-beside (node s i k l b) r zero e = absurd (omega arith)
front-beside (node s i k l b) r (suc n) e = ap (node s i k l) (front-beside b r n (omega arith))
front-beside (hole b) r zero e = absurd (omega arith)
front-beside (hole b) r (suc n) e = ap hole (front-beside b r n (omega arith))

pick : ℕ → Trees → Trees → Trees
pick zero a b = a
pick (suc n) a b = b

pull : Trees → Trees → Trees
pull none g = none
pull (hole r) g = front (width g - width r) g
pull (node s i k l r) none = none
pull (node s i k l r) (hole g) = none
pull (node s i k l r) (node s' i' k' l' g) = pick (holes k) (pull r g) (pull k k')

pull-fill : (c b : Trees) → holes c ≡ 1 → pull c (fill c b) ≡ b
unfolding pull pick
pull-fill none b o = absurd (omega arith)
pull-fill (hole r) b o =
    let e : fill r b ≡ r = fill-no_hole r b (omega arith) in
    ap (λ z. front (width (beside b z) - width r) (beside b z)) e
    ∙ front-beside b r (width (beside b r) - width r) (omega (arith, width-beside b r))
pull-fill (node s i k l r) b o = by_holes (holes k) refl (pull-fill r b) (pull-fill k b)
  where
    by_holes : (n : ℕ) → holes k ≡ n → (holes r ≡ 1 → pull r (fill r b) ≡ b)
        → (holes k ≡ 1 → pull k (fill k b) ≡ b) → pick n (pull r (fill r b)) (pull k (fill k b)) ≡ b
    by_holes zero e inr' ink = inr' (omega arith)
    by_holes (suc n) e inr' ink = ink (omega arith)

-- what stands in the context: the roots that only the context has are taken away
pub pull_root : Trees → Trees → Trees
pull_root none g = none
pull_root (hole r) g = minus g r
pull_root (node s i k l r) g =
    pick (holes k) (pull_root r (remove_one (node s i k l none) g))
    (pull (node s i k l none) (minus g r))

-- a hole for a grove stands at the roots
pulled-grove : (c g b : Trees) → holes c ≡ 1 → root_holes c ≡ 1 → SameGrove g (fill c b)
    → SameGrove (pull_root c g) b
unfolding pull_root pick
pulled-grove none g b o z h = absurd (omega arith)
pulled-grove (hole r) g b o z h =
    minus-beside r g b (λ u. h u
    ∙ ap (λ x. root_uses u (beside b x)) (fill-no_hole r b (omega arith)))
pulled-grove (node s i k l r) g b o z h =
    by_holes (holes k) refl (pulled-grove r (remove_one (node s i k l none) g) b)
  where
    by_holes : (n : ℕ) → holes k ≡ n
        → (holes r ≡ 1 → root_holes r ≡ 1 → SameGrove (remove_one (node s i k l none) g) (fill r b)
        → SameGrove (pull_root r (remove_one (node s i k l none) g)) b)
        → SameGrove
        (pick n (pull_root r (remove_one (node s i k l none) g))
        (pull (node s i k l none) (minus g r))) b
    by_holes zero e rec = rec (omega arith) (omega arith)
        (less_one (node s i k l none) g (fill r b) (omega (arith, one_if_self (node s i k l none)))
        (λ u. h u ∙ ap (λ x. root_uses u (node s i x l (fill r b))) (fill-no_hole k b e)))
    by_holes (suc n) e rec = absurd (omega (arith, root_holes-le r))

-- with at most one root in the hole, what is pulled out is equal to what stands there
pub pulled : (c g b : Trees) → holes c ≡ 1 → (root_holes c ≡ 1 → width b ≤ 1)
    → SameGrove g (fill c b) → pull_root c g ≡ b
unfolding pull_root pick
pulled none g b o z h = absurd (omega arith)
pulled (hole r) g b o z h = sym (narrow b (minus g r) (z (omega (arith, root_holes-le r)))
    (λ u. sym
    (minus-beside r g b (λ u. h u
    ∙ ap (λ x. root_uses u (beside b x)) (fill-no_hole r b (omega arith))) u)))
pulled (node s i k l r) g b o z h =
    by_holes (holes k) refl (pulled r (remove_one (node s i k l none) g) b)
  where
    by_holes : (n : ℕ) → holes k ≡ n
        → (holes r ≡ 1 → (root_holes r ≡ 1 → width b ≤ 1)
        → SameGrove (remove_one (node s i k l none) g) (fill r b)
        → pull_root r (remove_one (node s i k l none) g) ≡ b)
        → pick n (pull_root r (remove_one (node s i k l none) g))
        (pull (node s i k l none) (minus g r)) ≡ b
    by_holes zero e rec = rec (omega arith) z
        (less_one (node s i k l none) g (fill r b) (omega (arith, one_if_self (node s i k l none)))
        (λ u. h u ∙ ap (λ x. root_uses u (node s i x l (fill r b))) (fill-no_hole k b e)))
    by_holes (suc n) e rec =
        let w : SameGrove (minus g r) (node s i (fill k b) l none) =
        minus-beside r g (node s i (fill k b) l none) (λ u. h u
        ∙ ap (λ x. root_uses u (node s i (fill k b) l x)) (fill-no_hole r b (omega arith))) in
        ap (pull (node s i k l none))
        (sym (narrow (node s i (fill k b) l none) (minus g r) (omega arith) (λ u. sym (w u))))
        ∙ pull-fill (node s i k l none) b (omega arith)

-- the data that stands in a context is what is pulled out of the grove
pub pulled-same : (d : DataSort) (c g b : Trees) → Shaped (context d grove) c → Shaped (shape d) b
    → SameAt grove g (fill c b) → SameAt d b (pull_root c g)
pulled-same tree c g b wc wb h =
    sym (pulled c g b wc.holes_fit.one (λ z. omega (arith, wb.width_fits)) h)
pulled-same forest c g b wc wb h =
    sym (pulled c g b wc.holes_fit.one (λ z. absurd (false≢true (hole-root wc.holes_fit z))) h)
pulled-same grove c g b wc wb h =
    λ u. sym
    (pulled-grove c g b wc.holes_fit.one
    (omega (arith, grove_hole grove c wc.holes_fit, wc.holes_fit.one)) h u)
