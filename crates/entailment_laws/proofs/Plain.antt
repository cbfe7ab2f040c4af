-- The rows of truth, the connectives and the comparisons.
use Rattle.std.proofs.Common.{◌≡◌, refl, inl, inr, ⊎_elim, ℤ, pos, int_le, Bool, true, false, IsTrue, arith, ◌+ℤ◌}
use Rattle.std.proofs.lemmas.Int.{ints}
use Rattle.model_formulas.proofs.Stable.{stable}
use Rattle.model_formulas.specs.Formulas.{Formula, at_most, conjunction, disjunction, equality, falsity, implication, negation, truth}
use Rattle.model_formulas.specs.Satisfaction.{Entails, meaning_of, number_of}
use Rattle.model_terms.specs.Terms.{Term, literal, sum}
use Rattle.model_shapes.specs.Sorts.{Sort}
use Rattle.model_shapes.specs.Things.{val}
use Rattle.model_shapes.specs.Values.{Value, int}

module _ (p : Formula) (s : Sort) where
  pub id : Entails p p s
  id e pr t w h = h

  pub true_in : Entails p truth s
  true_in e pr t w h = tt

  pub false_out : Entails falsity p s
  false_out e pr t w h = absurd h

  pub not_out : Entails (conjunction (negation p) p) falsity s
  not_out e pr t w h = h.0 h.1

  pub classical : Entails (negation (negation p)) p s
  classical e pr t w h = stable p e s t h

module _ (p q : Formula) (s : Sort) where
  pub and_left : Entails (conjunction p q) p s
  and_left e pr t w h = h.0

  pub and_right : Entails (conjunction p q) q s
  and_right e pr t w h = h.1

  pub or_left : Entails p (disjunction p q) s
  or_left e pr t w h = λ n. n (inl h)

  pub or_right : Entails q (disjunction p q) s
  or_right e pr t w h = λ n. n (inr h)

  pub imp_out : Entails (conjunction (implication p q) p) q s
  imp_out e pr t w h = h.0 h.1

  pub not_in : Entails (conjunction p q) falsity s → Entails p (negation q) s
  not_in a e pr t w h = λ x. a e pr t w (h, x)

module _ (p q r : Formula) (s : Sort) where
  pub cut : Entails p q s → Entails q r s → Entails p r s
  cut a b e pr t w h = b e pr t w (a e pr t w h)

  pub and_in : Entails p q s → Entails p r s → Entails p (conjunction q r) s
  and_in a b e pr t w h = (a e pr t w h, b e pr t w h)

  pub or_out : Entails p r s → Entails q r s → Entails (disjunction p q) r s
  or_out a b e pr t w h =
      stable r e s t (λ n. h (λ c. ⊎_elim (λ x. n (a e pr t w x)) (λ x. n (b e pr t w x)) c))

  pub imp_in : Entails (conjunction p q) r s → Entails p (implication q r) s
  imp_in a e pr t w h = λ x. a e pr t w (h, x)

pub eq_refl : (p : Formula) (a : Term) (s : Sort) → Entails p (equality a a) s
eq_refl p a s e pr t w h = refl

module _ (p : Formula) (a b : Term) (s : Sort) where
  pub int_total : Entails p (disjunction (at_most a b) (at_most (sum b (literal (int (pos 1)))) a))
      s
  int_total e pr t w h =
      λ n. neither (number_of (meaning_of e a)) (number_of (meaning_of e b)) (λ x. n (inl x))
      (λ x. n (inr x))
    where
      decide : (c : Bool) → (IsTrue c → ⊥) → c ≡ false
      decide true f = absurd (f refl)
      decide false f = refl

      neither : (x y : ℤ) → (IsTrue (int_le x y) → ⊥) → (IsTrue (int_le (y +ℤ pos 1) x) → ⊥) → ⊥
      neither x y f g =
          let f' : int_le x y ≡ false = decide (int_le x y) f in
          let g' : int_le (y +ℤ pos 1) x ≡ false = decide (int_le (y +ℤ pos 1) x) g in
          grind (arith, ints)

pub val-is : (v w : Value) → val v ≡ val w → v ≡ w
val-is v w e = cc

pub distinct : (v w : Value) (s : Sort) → (v ≡ w → ⊥)
    → Entails (equality (literal v) (literal w)) falsity s
distinct v w s differ e pr t shaped h = differ (val-is v w h)
