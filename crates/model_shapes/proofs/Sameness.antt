-- Sameness of groves, by how often each tree stands among the roots.
use Rattle.std.proofs.Common.{◌≡◌, ℕ, ◌≤◌, ◌+◌, sym, refl, ap, arith}
use Rattle.model_shapes.specs.Trees.{Trees, none, node, hole, beside, root_uses, one_if, trees_eq}
use Rattle.model_shapes.proofs.Basics.{root_uses-beside}

-- sameness at groves
abbrev pub SameGrove : Trees → Trees → Type 0
SameGrove a b = (t : Trees) → root_uses t a ≡ root_uses t b

-- a tree is itself
pub one_if_self : (t : Trees) → one_if (trees_eq t t) ≡ 1
one_if_self t = by_case (trees_eq t t)
  where
    by_case : (d : Dec (t ≡ t)) → one_if d ≡ 1
    by_case (yes e) = refl
    by_case (no n) = absurd (n refl)

-- a tree that is counted stands among the roots
pub picked : (t b : Trees) → 1 ≤ root_uses t b → (l : Trees) × (r : Trees)
    × (b ≡ beside l (beside t r))
picked t none h = absurd (omega arith)
picked t (node s i k l rest) h = by_case (trees_eq t (node s i k l none)) h (picked t rest)
  where
    by_case : (d : Dec (t ≡ node s i k l none)) → 1 ≤ one_if d + root_uses t rest
        → (1 ≤ root_uses t rest → (l' : Trees) × (r : Trees) × (rest ≡ beside l' (beside t r)))
        → (l' : Trees) × (r : Trees) × (node s i k l rest ≡ beside l' (beside t r))
    by_case (yes e) h rec = (none, rest, ap (λ z. beside z rest) (sym e))
    by_case (no n) h rec = let x : (l' : Trees) × (r : Trees) × (rest ≡ beside l' (beside t r)) =
        rec (omega arith) in (node s i k l x.0, x.1, ap (node s i k l) x.2)
picked t (hole rest) h = by_case (trees_eq t (hole none)) h (picked t rest)
  where
    by_case : (d : Dec (t ≡ hole none)) → 1 ≤ one_if d + root_uses t rest
        → (1 ≤ root_uses t rest → (l' : Trees) × (r : Trees) × (rest ≡ beside l' (beside t r)))
        → (l' : Trees) × (r : Trees) × (hole rest ≡ beside l' (beside t r))
    by_case (yes e) h rec = (none, rest, ap (λ z. beside z rest) (sym e))
    by_case (no n) h rec = let x : (l' : Trees) × (r : Trees) × (rest ≡ beside l' (beside t r)) =
        rec (omega arith) in (hole x.0, x.1, ap hole x.2)

-- the same groves without the same tree are the same
pub moved : (t rest b l r : Trees) → (b ≡ beside l (beside t r)) → SameGrove (beside t rest) b
    → SameGrove rest (beside l r)
moved t rest b l r e same u = omega (
  arith,
  same u,
  root_uses-beside u t rest,
  ap (root_uses u) e,
  root_uses-beside u l (beside t r),
  root_uses-beside u t r,
  root_uses-beside u l r,
)

-- a count over the roots is the same for same groves
module _ (f : Trees → ℕ) (adds : (a b : Trees) → f (beside a b) ≡ f a + f b) where
  counted : (t rest b l r : Trees) → (b ≡ beside l (beside t r)) → f rest ≡ f (beside l r)
      → f (beside t rest) ≡ f b
  counted t rest b l r e ih =
      omega (arith, adds t rest, ap f e, adds l (beside t r), adds t r, adds l r, ih)

  -- by taking out the first root on both sides
  pub same-count : (a b : Trees) → SameGrove a b → f a ≡ f b
  same-count none none h = refl
  same-count none (node s i k l r) h =
      absurd (omega (arith, h (node s i k l none), one_if_self (node s i k l none)))
  same-count none (hole r) h = absurd (omega (arith, h (hole none), one_if_self (hole none)))
  same-count (node s i k l rest) b h =
      let x : (l' : Trees) × (r : Trees) × (b ≡ beside l' (beside (node s i k l none) r)) =
      picked (node s i k l none) b
      (omega (arith, h (node s i k l none), one_if_self (node s i k l none))) in
      counted (node s i k l none) rest b x.0 x.1 x.2
      (same-count rest (beside x.0 x.1) (moved (node s i k l none) rest b x.0 x.1 x.2 h))
  same-count (hole rest) b h =
      let x : (l' : Trees) × (r : Trees) × (b ≡ beside l' (beside (hole none) r)) =
      picked (hole none) b (omega (arith, h (hole none), one_if_self (hole none))) in
      counted (hole none) rest b x.0 x.1 x.2
      (same-count rest (beside x.0 x.1) (moved (hole none) rest b x.0 x.1 x.2 h))
