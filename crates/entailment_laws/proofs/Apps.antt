-- app_node, app_tree, app_root, app_star_left, app_star_right and app_plus, both ways.
use Rattle.model_shapes.proofs.Truth.{false≢true}
use Rattle.std.proofs.Common.{◌≡◌, sym, refl, arith, subst, true}
use Rattle.model_formulas.proofs.Stable.{stable}
use Rattle.model_formulas.specs.Formulas.{Formula, application, concatenation, grove_sum, grove_sum_hole, hole_left, hole_right, one_root, one_tree, whole}
use Rattle.model_formulas.specs.Satisfaction.{Classically, Entails, Meets}
use Rattle.model_shapes.proofs.Basics.{holes-beside, root_holes-beside}
use Rattle.model_shapes.proofs.Filling.{fill-left, outer-WellFormed, put-Shaped}
use Rattle.model_shapes.proofs.Narrow.{narrow-at}
use Rattle.model_shapes.proofs.Shapes.{IsList, SameAt-beside, SameAt-eq, SameAt-sym, SameAt-trans, left-WellFormed, right-WellFormed, root_holes-le, one-hole, hole-root, hole-below}
use Rattle.model_shapes.specs.Shapes.{HasWidth, SameAt, Shaped, may_stand}
use Rattle.model_shapes.specs.Sorts.{DataSort, Sort, context, forest, grove, shape, tree, value}
use Rattle.model_shapes.specs.Trees.{Trees, WellFormed, beside, fill, width}
use Rattle.entailment_laws.proofs.Classical.{◌>>=◌}
use Rattle.entailment_laws.proofs.Classical.{surely}
use Rattle.entailment_laws.proofs.Shared.{App, PutsInto, SameAt-refl, Split, app, fill-beside_left, fill-beside_right, puts_context, split, two_parts, width_one}
use Rattle.model_shapes.proofs.Shapes.{same-WellFormed}

-- A TREE'S CONTEXT AMONG THE ROOTS
stands_anywhere : (h k : DataSort) → may_stand h tree ≡ true → may_stand h k ≡ true
stands_anywhere tree k e = refl
stands_anywhere forest k e = absurd (false≢true e)
stands_anywhere grove k e = absurd (false≢true e)

lone-context : (h k : DataSort) (c : Trees) → Shaped (context h tree) c → Shaped (context h k) c
lone-context h k c w = record {
  well_formed = w.well_formed;
  width_fits = width_one k (width c) w.width_fits;
  holes_fit = one-hole h k c w.holes_fit.one
      (λ z. stands_anywhere h k (hole-root w.holes_fit z)) (hole-below w.holes_fit);
}

module _ (S : DataSort → Sort) (puts : PutsInto S)
    (tree_width : (r : Trees) → Shaped (S tree) r → width r ≡ 1) (K P : Sort → Trees → Type 0)
    (h k : DataSort) (r : Trees) (wf : WellFormed r) where
  lone : App S h k (λ s c. Shaped (context h tree) c × K (context h tree) c) P r
      → Classically (Shaped (S tree) r × App S h tree K P r)
  lone m = do
    (c, wc, m1) ← m
    (d, wd, (same, mc, md)) ← m1
    let wcd : Shaped (S tree) (fill c d) = puts h tree c d mc.0 wd
        (same-WellFormed k r (fill c d) same wf)
    let alone : fill c d ≡ r = narrow-at k (fill c d) r (omega (arith, tree_width (fill c d) wcd))
        (SameAt-sym k r (fill c d) same)
    surely (subst (Shaped (S tree)) alone wcd, app S h tree K P r c d mc.0 wd (sym alone) mc.1 md)

  lone_back : Shaped (S tree) r × App S h tree K P r
      → App S h k (λ s c. Shaped (context h tree) c × K (context h tree) c) P r
  lone_back m = do
    (c, wc, m1) ← m.1
    (d, wd, (same, mc, md)) ← m1
    app S h k (λ s c. Shaped (context h tree) c × K (context h tree) c) P r c d
        (lone-context h k c wc) wd (SameAt-eq k r (fill c d) same) (wc, mc) md

shape_width : (r : Trees) → Shaped (shape tree) r → width r ≡ 1
shape_width r w = w.width_fits

context_width : (i : DataSort) (r : Trees) → Shaped (context i tree) r → width r ≡ 1
context_width i r w = w.width_fits

module _ (k p : Formula) (h : DataSort) where
  pub app_tree : (s : Sort)
      → Entails (application h (one_tree k) p) (one_tree (application h k p)) s
  app_tree (value v) e pr r w m = absurd w.holes_fit
  app_tree (shape l) e pr r w m =
      stable (one_tree (application h k p)) e (shape l) r
      (lone shape put-Shaped shape_width (Meets k e) (Meets p e) h l r w.well_formed m)
  app_tree (context i l) e pr r w m =
      stable (one_tree (application h k p)) e (context i l) r
      (lone (context i) (puts_context i) (context_width i) (Meets k e)
      (Meets p e) h l r w.well_formed m)

  pub app_tree_back : (s : Sort)
      → Entails (one_tree (application h k p)) (application h (one_tree k) p) s
  app_tree_back (value v) e pr r w m = absurd w.holes_fit
  app_tree_back (shape l) e pr r w m =
      lone_back shape put-Shaped shape_width (Meets k e) (Meets p e) h l r w.well_formed m
  app_tree_back (context i l) e pr r w m =
      lone_back (context i) (puts_context i) (context_width i) (Meets k e)
      (Meets p e) h l r w.well_formed m

  pub app_root : (s : Sort)
      → Entails (application h (one_root k) p) (one_root (application h k p)) s
  app_root = app_tree

  pub app_root_back : (s : Sort)
      → Entails (one_root (application h k p)) (application h (one_root k) p) s
  app_root_back = app_tree_back

-- A CONTEXT WITH MORE BESIDE IT
module _ (k : DataSort) (list : IsList k) where
  beside_hole_left : (h : DataSort) (c b : Trees) → Shaped (context h k) c → Shaped (shape k) b
      → WellFormed (beside c b) → Shaped (context h k) (beside c b)
  beside_hole_left h c b wc wb wf = record {
    well_formed = wf;
    width_fits = list (width (beside c b));
    holes_fit = one-hole h k (beside c b)
        (omega (arith, holes-beside c b, wc.holes_fit.one, wb.holes_fit))
        (λ z. hole-root wc.holes_fit
        (omega (arith, z, root_holes-beside c b, root_holes-le b, wb.holes_fit)))
        (λ z. hole-below wc.holes_fit (omega (arith, z, root_holes-beside c b)));
  }

  beside_hole_right : (h : DataSort) (b c : Trees) → Shaped (shape k) b → Shaped (context h k) c
      → WellFormed (beside b c) → Shaped (context h k) (beside b c)
  beside_hole_right h b c wb wc wf = record {
    well_formed = wf;
    width_fits = list (width (beside b c));
    holes_fit = one-hole h k (beside b c)
        (omega (arith, holes-beside b c, wc.holes_fit.one, wb.holes_fit))
        (λ z. hole-root wc.holes_fit
        (omega (arith, z, root_holes-beside b c, root_holes-le b, wb.holes_fit)))
        (λ z. hole-below wc.holes_fit (omega (arith, z, root_holes-beside b c)));
  }

module _ (S : DataSort → Sort) (puts : PutsInto S)
    (width_of : (k : DataSort) (r : Trees) → Shaped (S k) r → HasWidth k (width r))
    (K Q P : Sort → Trees → Type 0) (h k : DataSort) (r : Trees) (w : Shaped (S k) r) where
  left : App S h k (λ s. Split k (context h k) (shape k) K Q) P r
      → Split k (S k) (shape k) (λ s. App S h k K P) Q r
  left m = do
    (cb, wcb, m1) ← m
    (d, wd, (same, mcb, md)) ← m1
    (c, wc, m2) ← mcb
    (b, wb, (cbsame, mc, mb)) ← m2
    let now : SameAt k r (beside (fill c d) b) = SameAt-trans k r (fill cb d)
        (beside (fill c d) b) same
        (subst (SameAt k (fill cb d)) (fill-beside_left c b d wb.holes_fit)
        (fill-left k cb (beside c b) d cbsame))
    let wcd : Shaped (S k) (fill c d) = puts h k c d wc wd
        (left-WellFormed (fill c d) b (same-WellFormed k r (beside (fill c d) b) now w.well_formed))
    split k (S k) (shape k) (λ s. App S h k K P) Q r (fill c d) b wcd wb now
        (app S h k K P (fill c d) c d wc wd (SameAt-refl k (fill c d)) mc md) mb

  left_back : Split k (S k) (shape k) (λ s. App S h k K P) Q r
      → App S h k (λ s. Split k (context h k) (shape k) K Q) P r
  left_back m = do
    (x, wx, m1) ← m
    (b, wb, (same, mx, mb)) ← m1
    (c, wc, m2) ← mx
    (d, wd, (xsame, mc, md)) ← m2
    let list : IsList k = two_parts k x b r (width_of k x wx) wb.width_fits (width_of k r w) same
    let now : SameAt k r (fill (beside c b) d) = subst (SameAt k r)
        (sym (fill-beside_left c b d wb.holes_fit))
        (SameAt-trans k r (beside x b) (beside (fill c d) b) same
        (SameAt-beside k x b (fill c d) b xsame (SameAt-refl k b)))
    let wcb : Shaped (context h k) (beside c b) = beside_hole_left k list h c b wc wb
        (outer-WellFormed (beside c b) d (same-WellFormed k r
        (fill (beside c b) d) now w.well_formed))
    app S h k (λ s. Split k (context h k) (shape k) K Q) P r (beside c b) d wcb wd now
        (split k (context h k) (shape k) K Q (beside c b) c b wc wb
        (SameAt-refl k (beside c b)) mc mb) md

  right : App S h k (λ s. Split k (shape k) (context h k) Q K) P r
      → Split k (shape k) (S k) Q (λ s. App S h k K P) r
  right m = do
    (bc, wbc, m1) ← m
    (d, wd, (same, mbc, md)) ← m1
    (b, wb, m2) ← mbc
    (c, wc, (bcsame, mb, mc)) ← m2
    let now : SameAt k r (beside b (fill c d)) = SameAt-trans k r (fill bc d)
        (beside b (fill c d)) same
        (subst (SameAt k (fill bc d)) (fill-beside_right b c d wb.holes_fit)
        (fill-left k bc (beside b c) d bcsame))
    let wcd : Shaped (S k) (fill c d) = puts h k c d wc wd
        (right-WellFormed b (fill c d) (same-WellFormed k r
        (beside b (fill c d)) now w.well_formed))
    split k (shape k) (S k) Q (λ s. App S h k K P) r b (fill c d) wb wcd now mb
        (app S h k K P (fill c d) c d wc wd (SameAt-refl k (fill c d)) mc md)

  right_back : Split k (shape k) (S k) Q (λ s. App S h k K P) r
      → App S h k (λ s. Split k (shape k) (context h k) Q K) P r
  right_back m = do
    (b, wb, m1) ← m
    (x, wx, (same, mb, mx)) ← m1
    (c, wc, m2) ← mx
    (d, wd, (xsame, mc, md)) ← m2
    let list : IsList k = two_parts k b x r wb.width_fits (width_of k x wx) (width_of k r w) same
    let now : SameAt k r (fill (beside b c) d) = subst (SameAt k r)
        (sym (fill-beside_right b c d wb.holes_fit))
        (SameAt-trans k r (beside b x) (beside b (fill c d)) same
        (SameAt-beside k b x b (fill c d) (SameAt-refl k b) xsame))
    let wbc : Shaped (context h k) (beside b c) = beside_hole_right k list h b c wb wc
        (outer-WellFormed (beside b c) d (same-WellFormed k r
        (fill (beside b c) d) now w.well_formed))
    app S h k (λ s. Split k (shape k) (context h k) Q K) P r (beside b c) d wbc wd now
        (split k (shape k) (context h k) Q K (beside b c) b c wb wc
        (SameAt-refl k (beside b c)) mb mc) md

shape_fits : (k : DataSort) (r : Trees) → Shaped (shape k) r → HasWidth k (width r)
shape_fits k r w = w.width_fits

context_fits : (i k : DataSort) (r : Trees) → Shaped (context i k) r → HasWidth k (width r)
context_fits i k r w = w.width_fits

module _ (k q p : Formula) (h : DataSort) where
  pub app_star_left : (l : DataSort)
      → Entails (application h (concatenation hole_left k q) p)
      (concatenation whole (application h k p) q) (shape l)
  app_star_left l e pr r w m =
      left shape put-Shaped shape_fits (Meets k e) (Meets q e) (Meets p e) h l r w m

  pub app_star_left_context : (i l : DataSort)
      → Entails (application h (concatenation hole_left k q) p)
      (concatenation hole_left (application h k p) q) (context i l)
  app_star_left_context i l e pr r w m =
      left (context i) (puts_context i) (context_fits i) (Meets k e) (Meets q e)
      (Meets p e) h l r w m

  pub app_star_left_back : (l : DataSort)
      → Entails (concatenation whole (application h k p) q)
      (application h (concatenation hole_left k q) p) (shape l)
  app_star_left_back l e pr r w m =
      left_back shape put-Shaped shape_fits (Meets k e) (Meets q e) (Meets p e) h l r w m

  pub app_star_left_back_context : (i l : DataSort)
      → Entails (concatenation hole_left (application h k p) q)
      (application h (concatenation hole_left k q) p) (context i l)
  app_star_left_back_context i l e pr r w m =
      left_back (context i) (puts_context i) (context_fits i) (Meets k e) (Meets q e)
      (Meets p e) h l r w m

  pub app_star_right : (l : DataSort)
      → Entails (application h (concatenation hole_right q k) p)
      (concatenation whole q (application h k p)) (shape l)
  app_star_right l e pr r w m =
      right shape put-Shaped shape_fits (Meets k e) (Meets q e) (Meets p e) h l r w m

  pub app_star_right_context : (i l : DataSort)
      → Entails (application h (concatenation hole_right q k) p)
      (concatenation hole_right q (application h k p)) (context i l)
  app_star_right_context i l e pr r w m =
      right (context i) (puts_context i) (context_fits i) (Meets k e) (Meets q e)
      (Meets p e) h l r w m

  pub app_star_right_back : (l : DataSort)
      → Entails (concatenation whole q (application h k p))
      (application h (concatenation hole_right q k) p) (shape l)
  app_star_right_back l e pr r w m =
      right_back shape put-Shaped shape_fits (Meets k e) (Meets q e) (Meets p e) h l r w m

  pub app_star_right_back_context : (i l : DataSort)
      → Entails (concatenation hole_right q (application h k p))
      (application h (concatenation hole_right q k) p) (context i l)
  app_star_right_back_context i l e pr r w m =
      right_back (context i) (puts_context i) (context_fits i) (Meets k e) (Meets q e)
      (Meets p e) h l r w m

  -- `+` is met as `*` is, and `.+` as `.*`
  pub app_plus : (l : DataSort)
      → Entails (application h (grove_sum_hole k q) p) (grove_sum (application h k p) q) (shape l)
  app_plus = app_star_left

  pub app_plus_context : (i l : DataSort)
      → Entails (application h (grove_sum_hole k q) p) (grove_sum_hole (application h k p) q)
      (context i l)
  app_plus_context = app_star_left_context

  pub app_plus_back : (l : DataSort)
      → Entails (grove_sum (application h k p) q) (application h (grove_sum_hole k q) p) (shape l)
  app_plus_back = app_star_left_back

  pub app_plus_back_context : (i l : DataSort)
      → Entails (grove_sum_hole (application h k p) q) (application h (grove_sum_hole k q) p)
      (context i l)
  app_plus_back_context = app_star_left_back_context
