-- The same shapes and contexts meet the same formulas.
-- By cases on the formula; sameness at trees and forests is equality, at groves a count of roots.
use Rattle.std.proofs.Common.{◌≡◌, ℕ, sym, ap, arith, ◌∙◌, subst, inl, inr, ⊎_elim, pos, List}
use Rattle.model_shapes.specs.Trees.{Trees, none, node, hole, beside, fill, width}
use Rattle.model_shapes.specs.Shapes.{Same, SameAt, Shaped, HasWidth}
use Rattle.model_shapes.specs.Sorts.{Sort, value, shape, context, DataSort, tree, outer, with_outer}
use Rattle.model_shapes.specs.Things.{Thing, val, trees}
use Rattle.model_shapes.specs.Values.{int}
use Rattle.model_formulas.specs.Formulas.{Formula, truth, falsity, conjunction, disjunction, implication, negation, existential, universal, equality, at_most, empty, bare_hole, node_formula, one_tree, one_root, concatenation, grove_sum, grove_sum_hole, application, hole_adjoint, context_adjoint, same_as, length_is, value_meets, Side, whole, hole_left}
use Rattle.model_formulas.specs.Satisfaction.{Environment, Meets, Splits, choosing, IfNode, IfTrees, meaning_of}
use Rattle.model_shapes.proofs.Shapes.{SameAt-sym, SameAt-trans, same-Shaped, same-width}
use Rattle.model_shapes.proofs.Narrow.{narrow-at}
use Rattle.model_shapes.proofs.Filling.{fill-left, fill-right}

Splits-closed : (side : Side) (s : Sort) (P Q : Sort → Trees → Type 0) (a b : Trees) → Same s a b
    → Splits side s a P Q → Splits side s b P Q
Splits-closed side s P Q a b same h = λ n. h (λ x. x.2 (λ y. n (
  x.0,
  x.1,
  λ m. m (
    y.0,
    y.1,
    (
      SameAt-trans (outer s) b a (beside x.0 y.0) (SameAt-sym (outer s) a b same) y.2.0,
      y.2.1,
      y.2.2,
    ),
  ),
)))

IfNode-closed : (k : DataSort) (a b : Trees) (P : List ℕ → ℕ → Trees → ℕ → Type 0) → SameAt k a b
    → IfNode a P → IfNode b P
IfNode-closed k none b P h m = absurd m
IfNode-closed k (hole r) b P h m = absurd m
IfNode-closed k (node s i kids l none) b P h m =
    subst (λ x. IfNode x P) (narrow-at k (node s i kids l none) b (omega arith) h) m
IfNode-closed k (node s i kids l (hole r)) b P h m = absurd m
IfNode-closed k (node s i kids l (node s' i' kids' l' r)) b P h m = absurd m

IfTrees-closed : (x : Thing) (P Q : Trees → Type 0) → ((r : Trees) → P r → Q r) → IfTrees x P
    → IfTrees x Q
IfTrees-closed (val v) P Q f m = absurd m
IfTrees-closed (trees r) P Q f m = f r m

one_width : (s : Sort) (n : ℕ) → HasWidth (outer (with_outer tree s)) n → n ≡ 1
one_width (value v) n h = h
one_width (shape k) n h = h
one_width (context j k) n h = h

one_closed : (s : Sort) (a b : Trees) → Same s a b → (P : Trees → Type 0)
    → Shaped (with_outer tree s) a × P a → Shaped (with_outer tree s) b × P b
one_closed s a b h P m =
    let w : width a ≡ 1 = one_width s (width a) m.0.width_fits in
    subst (λ x. Shaped (with_outer tree s) x × P x) (narrow-at (outer s) a b (omega arith) h) m

-- what meets a formula does so for all that is the same
pub closed : (p : Formula) (e : Environment) (s : Sort) (a b : Trees) → Same s a b → Meets p e s a
    → Meets p e s b
closed truth e s a b h m = tt
closed falsity e s a b h m = m
closed (conjunction p q) e s a b h m = (closed p e s a b h m.0, closed q e s a b h m.1)
closed (disjunction p q) e s a b h m =
    λ n. m (λ c. n (⊎_elim (λ x. inl (closed p e s a b h x)) (λ x. inr (closed q e s a b h x)) c))
closed (implication p q) e s a b h m =
    λ x. closed q e s a b h (m (closed p e s b a (SameAt-sym (outer s) a b h) x))
closed (negation p) e s a b h m = λ x. m (closed p e s b a (SameAt-sym (outer s) a b h) x)
closed (existential u p) e s a b h m =
    λ n. m (λ c. n (c.0, c.1, closed p (choosing c.0 e) s a b h c.2))
closed (universal u p) e s a b h m = λ v f. closed p (choosing v e) s a b h (m v f)
closed (equality x y) e s a b h m = m
closed (at_most x y) e s a b h m = m
closed (empty k) e s a b h m = sym (narrow-at (outer s) a b (omega (arith, ap width m)) h) ∙ m
closed (bare_hole k) e s a b h m = sym (narrow-at (outer s) a b (omega (arith, ap width m)) h) ∙ m
closed (node_formula n i p l) e s a b h m = IfNode-closed (outer s) a b _ h m
closed (one_tree p) e s a b h m = one_closed s a b h (λ x. Meets p e (with_outer tree s) x) m
closed (one_root p) e s a b h m = one_closed s a b h (λ x. Meets p e (with_outer tree s) x) m
closed (concatenation side p q) e s a b h m = Splits-closed side s (Meets p e) (Meets q e) a b h m
closed (grove_sum p q) e s a b h m = Splits-closed whole s (Meets p e) (Meets q e) a b h m
closed (grove_sum_hole p q) e s a b h m = Splits-closed hole_left s (Meets p e) (Meets q e) a b h m
closed (application u k p) e s a b h m = λ n. m (λ x. x.2 (λ y. n (
  x.0,
  x.1,
  λ z. z (
    y.0,
    y.1,
    (SameAt-trans (outer s) b a (fill x.0 y.0) (SameAt-sym (outer s) a b h) y.2.0, y.2.1, y.2.2),
  ),
)))
closed (hole_adjoint p q) e s a b h m = λ d wd md wf.
    closed q e (shape (outer s)) (fill a d) (fill b d) (fill-left (outer s) a b d h)
    (m d wd md
    (same-Shaped (shape (outer s)) (fill b d) (fill a d)
    (SameAt-sym (outer s) (fill a d) (fill b d) (fill-left (outer s) a b d h)) wf))
closed (context_adjoint k p q) e s a b h m = λ c wc mc wf.
    let same : SameAt k (fill c a) (fill c b) = fill-right (outer s) k c a b wc.holes_fit h in
    closed q e (shape k) (fill c a) (fill c b) same
    (m c wc mc
    (same-Shaped (shape k) (fill c b) (fill c a) (SameAt-sym k (fill c a) (fill c b) same) wf))
closed (same_as x) e s a b h m =
    IfTrees-closed (meaning_of e x) _ _
    (λ t g. SameAt-trans (outer s) b a t (SameAt-sym (outer s) a b h) g) m
closed (length_is x) e s a b h m = ap (λ n. val (int (pos n))) (sym (same-width (outer s) a b h))
    ∙ m
closed (value_meets u x p) e s a b h m = m
