-- What the rows of the splits share.
use Rattle.std.proofs.Common.{◌≡◌, sym, refl, ap, arith, ◌∙◌, subst}
use mathlib.Core.HLevel.{Stable}
use Rattle.model_formulas.proofs.Closed.{closed}
use Rattle.model_formulas.proofs.Stable.{stable}
use Rattle.model_formulas.specs.Formulas.{Formula}
use Rattle.model_formulas.specs.Satisfaction.{Environment, Meets, SomeShape}
use Rattle.model_shapes.proofs.Basics.{beside-none, beside_assoc, holes-beside, root_holes-beside}
use Rattle.model_shapes.proofs.Shapes.{IsList, Same-refl, SameAt-beside, SameAt-eq, SameAt-sym, SameAt-trans, left-WellFormed, right-WellFormed, root_holes-le, same-WellFormed, one-hole, hole-root, hole-below}
use Rattle.model_shapes.specs.Shapes.{SameAt, Shaped}
use Rattle.model_shapes.specs.Sorts.{DataSort, Sort, context, outer, shape}
use Rattle.model_shapes.specs.Trees.{Trees, WellFormed, beside, none, width}
use Rattle.entailment_laws.proofs.Classical.{◌>>=◌}

-- the same as one part followed by another
abbrev pub Parts : DataSort → Sort → Sort → Trees → (Trees → Type 0) → (Trees → Type 0) → Type 0
Parts k u v r P Q = SomeShape u λ a. SomeShape v λ b. SameAt k r (beside a b) × P a × Q b

pub parts : (k : DataSort) (u v : Sort) (r : Trees) (P Q : Trees → Type 0) (a b : Trees)
    → Shaped u a → Shaped v b → SameAt k r (beside a b) → P a → Q b → Parts k u v r P Q
parts k u v r P Q a b wa wb same pa qb = λ n. n (a, wa, λ m. m (b, wb, (same, pa, qb)))

pub parts-map : (k : DataSort) (u v : Sort) (r : Trees) (P P' Q Q' : Trees → Type 0)
    → ((a : Trees) → Shaped u a → P a → P' a) → ((b : Trees) → Shaped v b → Q b → Q' b)
    → Parts k u v r P Q → Parts k u v r P' Q'
parts-map k u v r P P' Q Q' f g h =
    λ n. h
    (λ a. a.2
    (λ b. parts k u v r P' Q' a.0 b.0 a.1 b.1 b.2.0 (f a.0 a.1 b.2.1) (g b.0 b.1 b.2.2) n))

pub parts-say : {X : Type 0} (k : DataSort) (u v : Sort) (r : Trees) (P Q : Trees → Type 0)
    → Stable X → ((a b : Trees) → Shaped u a → Shaped v b → SameAt k r (beside a b) → P a → Q b → X)
    → Parts k u v r P Q → X
parts-say k u v r P Q st f h = st (λ n. h (λ a. a.2 (λ b. n (f a.0 b.0 a.1 b.1 b.2.0 b.2.1 b.2.2))))

-- the sorts of two parts and of the whole
pub data Joins (k : DataSort) : Sort → Sort → Sort → Type 0 where
  shapes : Joins k (shape k) (shape k) (shape k)
  hole_first : {h : DataSort} → Joins k (context h k) (shape k) (context h k)
  hole_last : {h : DataSort} → Joins k (shape k) (context h k) (context h k)

pub joined-Shaped : {k : DataSort} {u v s : Sort} → Joins k u v s → IsList k → (a b : Trees)
    → Shaped u a → Shaped v b → WellFormed (beside a b) → Shaped s (beside a b)
joined-Shaped shapes l a b wa wb wf =
    record {
      well_formed = wf;
      width_fits = l (width (beside a b));
      holes_fit = omega
          (arith, holes-beside a b, wa.holes_fit, wb.holes_fit);
    }
joined-Shaped {k} hole_first l a b wa wb wf = record {
  well_formed = wf;
  width_fits = l (width (beside a b));
  holes_fit = one-hole _ k (beside a b)
      (omega (arith, holes-beside a b, wa.holes_fit.one, wb.holes_fit))
      (λ z. hole-root wa.holes_fit
      (omega (arith, root_holes-beside a b, root_holes-le b, wb.holes_fit)))
      (λ z. hole-below wa.holes_fit (omega (arith, root_holes-beside a b)));
}
joined-Shaped {k} hole_last l a b wa wb wf = record {
  well_formed = wf;
  width_fits = l (width (beside a b));
  holes_fit = one-hole _ k (beside a b)
      (omega (arith, holes-beside a b, wb.holes_fit.one, wa.holes_fit))
      (λ z. hole-root wb.holes_fit
      (omega (arith, root_holes-beside a b, root_holes-le a, wa.holes_fit)))
      (λ z. hole-below wb.holes_fit (omega (arith, root_holes-beside a b)));
}

module _ (k : DataSort) (l : IsList k) (u v w uv vw : Sort) (P Q R : Trees → Type 0) (r : Trees)
    (wf : WellFormed r) where
  pub regroup : Joins k v w vw → Parts k uv w r (λ t. Parts k u v t P Q) R
      → Parts k u vw r P (λ t. Parts k v w t Q R)
  regroup j h = do
    (x, wx, h1) ← h
    (c, wc, (rs, hx, hc)) ← h1
    (a, wa, h2) ← hx
    (b, wb, (xs, ha, hb)) ← h2
    let same : SameAt k r (beside a (beside b c)) = SameAt-trans k r (beside x c)
        (beside a (beside b c)) rs
        (subst (SameAt k (beside x c)) (beside_assoc a b c)
        (SameAt-beside k x c (beside a b) c xs (SameAt-eq k c c refl)))
    let wbc : Shaped vw (beside b c) = joined-Shaped j l b c wb wc
        (right-WellFormed a (beside b c) (same-WellFormed k r (beside a (beside b c)) same wf))
    parts k u vw r P (λ t. Parts k v w t Q R) a (beside b c) wa wbc same ha
        (parts k v w (beside b c) Q R b c wb wc (SameAt-eq k (beside b c) (beside b c) refl) hb hc)

  pub regroup_back : Joins k u v uv → Parts k u vw r P (λ t. Parts k v w t Q R)
      → Parts k uv w r (λ t. Parts k u v t P Q) R
  regroup_back j h = do
    (a, wa, h1) ← h
    (x, wx, (rs, ha, hx)) ← h1
    (b, wb, h2) ← hx
    (c, wc, (xs, hb, hc)) ← h2
    let same : SameAt k r (beside (beside a b) c) = SameAt-trans k r (beside a x)
        (beside (beside a b) c) rs
        (subst (SameAt k (beside a x)) (sym (beside_assoc a b c))
        (SameAt-beside k a x a (beside b c) (SameAt-eq k a a refl) xs))
    let wab : Shaped uv (beside a b) = joined-Shaped j l a b wa wb
        (left-WellFormed (beside a b) c (same-WellFormed k r (beside (beside a b) c) same wf))
    parts k uv w r (λ t. Parts k u v t P Q) R (beside a b) c wab wc same
        (parts k u v (beside a b) P Q a b wa wb (SameAt-eq k (beside a b) (beside a b) refl) ha hb)
        hc

pub none-Shaped : (k : DataSort) → IsList k → Shaped (shape k) none
none-Shaped k l =
    record {
      well_formed = record {
        nodes_once = λ n. omega arith;
        lists_once = λ n. omega arith;
        no_node_zero = refl;
        no_list_zero = refl;
      };
      width_fits = l 0;
      holes_fit = refl;
    }

module _ (s v : Sort) (p : Formula) (e : Environment) (r : Trees) where
  pub drop_last : Parts (outer s) s v r (Meets p e s) (λ t. t ≡ none) → Meets p e s r
  drop_last =
      parts-say (outer s) s v r (Meets p e s) (λ t. t ≡ none) (stable p e s r)
      (λ a b wa wb same ha hb.
      closed p e s a r
      (SameAt-sym (outer s) r a
      (subst (SameAt (outer s) r) (ap (beside a) hb ∙ beside-none a) same)) ha)

  pub drop_first : Parts (outer s) v s r (λ t. t ≡ none) (Meets p e s) → Meets p e s r
  drop_first =
      parts-say (outer s) v s r (λ t. t ≡ none) (Meets p e s) (stable p e s r)
      (λ a b wa wb same ha hb.
      closed p e s b r
      (SameAt-sym (outer s) r b (subst (SameAt (outer s) r) (ap (λ x. beside x b) ha) same)) hb)

  pub add_last : Shaped v none → Shaped s r → Meets p e s r
      → Parts (outer s) s v r (Meets p e s) (λ t. t ≡ none)
  add_last wn w h =
      parts (outer s) s v r (Meets p e s) (λ t. t ≡ none) r none w wn
      (SameAt-eq (outer s) r (beside r none) (sym (beside-none r))) h refl

  pub add_first : Shaped v none → Shaped s r → Meets p e s r
      → Parts (outer s) v s r (λ t. t ≡ none) (Meets p e s)
  add_first wn w h =
      parts (outer s) v s r (λ t. t ≡ none) (Meets p e s) none r wn w (Same-refl s r) refl h
