-- hole_left, hole_right and app_assoc, both ways.
use Rattle.std.proofs.Common.{◌≡◌, sym, refl, ap, ◌∙◌, subst}
use Rattle.model_shapes.specs.Sorts.{Sort, value, shape, context, DataSort, outer}
use Rattle.model_shapes.specs.Trees.{Trees, WellFormed, none, hole, beside, fill}
use Rattle.model_shapes.specs.Shapes.{SameAt}
use Rattle.model_shapes.proofs.Basics.{beside-none, fill-fill}
use Rattle.model_shapes.proofs.Shapes.{SameAt-sym, SameAt-trans, SameAt-eq}
use Rattle.model_shapes.proofs.Filling.{put-Shaped, compose-Shaped, inner-WellFormed, outer-WellFormed, fill-left, fill-right}
use Rattle.model_formulas.specs.Formulas.{Formula, bare_hole, application}
use Rattle.model_formulas.specs.Satisfaction.{Meets, Entails}
use Rattle.model_formulas.proofs.Stable.{stable}
use Rattle.model_formulas.proofs.Closed.{closed}
use Rattle.entailment_laws.proofs.Classical.{◌>>=◌, surely}
use Rattle.entailment_laws.proofs.Shared.{PutsInto, puts_context, App, app, SameAt-refl, fill-hole, hole-Shaped}
use Rattle.model_shapes.proofs.Shapes.{same-WellFormed}

-- THE BARE HOLE
from_hole : (k : DataSort) (r c d : Trees) → SameAt k r (fill c d) → c ≡ hole none → SameAt k d r
from_hole k r c d same e =
    SameAt-sym k r d (subst (SameAt k r) (ap (λ z. fill z d) e ∙ beside-none d) same)

to_hole : (k : DataSort) (r : Trees) → SameAt k r (fill (hole none) r)
to_hole k r = SameAt-eq k r (beside r none) (sym (beside-none r))

pub hole_left : (p : Formula) (s : Sort)
    → Entails (application (outer s) (bare_hole (outer s)) p) p s
hole_left p (value v) e pr r w m = absurd w.holes_fit
hole_left p (shape k) e pr r w m = stable p e (shape k) r (do
  (c, wc, m1) ← m
  (d, wd, (same, mc, md)) ← m1
  surely (closed p e (shape k) d r (from_hole k r c d same mc) md))
hole_left p (context i k) e pr r w m = stable p e (context i k) r (do
  (c, wc, m1) ← m
  (d, wd, (same, mc, md)) ← m1
  surely (closed p e (context i k) d r (from_hole k r c d same mc) md))

pub hole_left_back : (p : Formula) (s : Sort)
    → Entails p (application (outer s) (bare_hole (outer s)) p) s
hole_left_back p (value v) e pr r w m = absurd w.holes_fit
hole_left_back p (shape k) e pr r w m =
    app shape k k (Meets (bare_hole k) e) (Meets p e) r (hole none) r (hole-Shaped k) w
    (to_hole k r) refl m
hole_left_back p (context i k) e pr r w m =
    app (context i) k k (Meets (bare_hole k) e) (Meets p e) r (hole none) r (hole-Shaped k) w
    (to_hole k r) refl m

module _ (k : Formula) (h j : DataSort) where
  pub hole_right : Entails (application h k (bare_hole h)) k (context h j)
  hole_right e pr r w m = stable k e (context h j) r (do
    (c, wc, m1) ← m
    (d, wd, (same, mc, md)) ← m1
    let whole : SameAt j r c = subst (SameAt j r) (ap (fill c) md ∙ fill-hole c) same
    surely (closed k e (context h j) c r (SameAt-sym j r c whole) mc))

  pub hole_right_back : Entails k (application h k (bare_hole h)) (context h j)
  hole_right_back e pr r w m =
      app (context h) h j (Meets k e) (Meets (bare_hole h) e) r r (hole none) w (hole-Shaped h)
      (SameAt-eq j r (fill r (hole none)) (sym (fill-hole r))) m refl

-- PUTTING IN TWICE
module _ (S : DataSort → Sort) (puts : PutsInto S) (K H P : Sort → Trees → Type 0)
    (h j l : DataSort) (r : Trees) (wf : WellFormed r) where
  assoc : App S j l (λ s. App (context j) h l K H) P r → App S h l K (λ s. App S j h H P) r
  assoc m = do
    (c, wc, m1) ← m
    (d, wd, (same, mc, md)) ← m1
    (a, wa, m2) ← mc
    (b, wb, (csame, ma, mb)) ← m2
    let now : SameAt l r (fill a (fill b d)) = SameAt-trans l r (fill c d) (fill a (fill b d)) same
        (subst (SameAt l (fill c d)) (fill-fill a b d) (fill-left l c (fill a b) d csame))
    let wf' : WellFormed (fill a (fill b d)) = same-WellFormed l r (fill a (fill b d)) now wf
    let wbd : WellFormed (fill b d) = inner-WellFormed a (fill b d) wa.holes_fit.one wf'
    app S h l K (λ s. App S j h H P) r a (fill b d) wa (puts j h b d wb wd wbd) now ma
        (app S j h H P (fill b d) b d wb wd (SameAt-refl h (fill b d)) mb md)

  assoc_back : App S h l K (λ s. App S j h H P) r → App S j l (λ s. App (context j) h l K H) P r
  assoc_back m = do
    (a, wa, m1) ← m
    (y, wy, (same, ma, my)) ← m1
    (b, wb, m2) ← my
    (d, wd, (ysame, mb, md)) ← m2
    let now : SameAt l r (fill (fill a b) d) = subst (SameAt l r) (sym (fill-fill a b d))
        (SameAt-trans l r (fill a y) (fill a (fill b d)) same
        (fill-right h l a y (fill b d) wa.holes_fit ysame))
    let wf' : WellFormed (fill (fill a b) d) = same-WellFormed l r (fill (fill a b) d) now wf
    let wab : WellFormed (fill a b) = outer-WellFormed (fill a b) d wf'
    app S j l (λ s. App (context j) h l K H) P r (fill a b) d (compose-Shaped j h l a b wa wb wab)
        wd now (app (context j) h l K H (fill a b) a b wa wb (SameAt-refl l (fill a b)) ma mb) md

module _ (k k' p : Formula) (h j : DataSort) where
  pub app_assoc : (s : Sort)
      → Entails (application j (application h k k') p) (application h k (application j k' p)) s
  app_assoc (value v) e pr r w m = absurd w.holes_fit
  app_assoc (shape l) e pr r w m =
      assoc shape put-Shaped (Meets k e) (Meets k' e) (Meets p e) h j l r w.well_formed m
  app_assoc (context i l) e pr r w m =
      assoc (context i) (puts_context i) (Meets k e) (Meets k' e) (Meets p e) h j l r
      w.well_formed m

  pub app_assoc_back : (s : Sort)
      → Entails (application h k (application j k' p)) (application j (application h k k') p) s
  app_assoc_back (value v) e pr r w m = absurd w.holes_fit
  app_assoc_back (shape l) e pr r w m =
      assoc_back shape put-Shaped (Meets k e) (Meets k' e) (Meets p e) h j l r w.well_formed m
  app_assoc_back (context i l) e pr r w m =
      assoc_back (context i) (puts_context i) (Meets k e) (Meets k' e) (Meets p e) h j l r
      w.well_formed m
