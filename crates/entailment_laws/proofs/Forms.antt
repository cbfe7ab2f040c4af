-- What a linear form comes to: where no variable counts, its constant.
use Rattle.std.proofs.Common.{◌≡◌, ◌⊎◌, ℕ, zero, suc, ◌≤◌, refl, sym, ap, ◌∙◌, subst, arith, inl, inr, ⊎_elim, ℤ, pos, ◌+ℤ◌, ◌*ℤ◌, neg_ℤ, Bool, true, false, [], ◌∷◌, ◌++◌, length, cond}
use Rattle.std.proofs.Math.IntN.{zero-*ℤ, *ℤ-zero}
use Rattle.std.proofs.lemmas.Int.{ints}
use Rattle.model_shapes.proofs.Tests.{int-is}
use Rattle.model_shapes.proofs.Truth.{both_true}
use Rattle.model_shapes.specs.Things.{val}
use Rattle.model_terms.specs.Variables.{Var}
use Rattle.model_terms.specs.VariableTests.{same_var}
use Rattle.model_terms.specs.VariableTests.{same_var-is, same_var-refl}
use Rattle.model_terms.specs.Terms.{Term, literal, variable, sum, difference, appended}
use Rattle.model_shapes.specs.Tests.{int_eq}
use Rattle.model_formulas.specs.Satisfaction.{Environment, number_of, meaning_of}
use Rattle.rule_table.specs.Linear.{times, plain, Form, multiple, minus, coefficient, constant, none_counts, is_constant}
use Rattle.entailment_laws.proofs.Ints.{add-mul, mul-add, mul-sub, neg-mul}

-- what the form comes to
abbrev pub value_of : Environment → Form → ℤ
value_of e [] = pos 0
value_of e (times a x ∷ form) = a *ℤ number_of (e x) +ℤ value_of e form
value_of e (plain a ∷ form) = a +ℤ value_of e form

module _ (e : Environment) where
  pub value-append : (f g : Form) → value_of e (f ++ g) ≡ value_of e f +ℤ value_of e g
  value-append [] g = omega (arith, ints)
  value-append (times a x ∷ f) g =
      more (a *ℤ number_of (e x)) (value_of e (f ++ g)) (value_of e f) (value_of e g)
      (value-append f g)
    where
      more : (p t s u : ℤ) → t ≡ s +ℤ u → p +ℤ t ≡ p +ℤ s +ℤ u
      more p t s u h = omega (arith, ints)
  value-append (plain a ∷ f) g =
      more a (value_of e (f ++ g)) (value_of e f) (value_of e g) (value-append f g)
    where
      more : (p t s u : ℤ) → t ≡ s +ℤ u → p +ℤ t ≡ p +ℤ s +ℤ u
      more p t s u h = omega (arith, ints)

  and_nothing : (a : ℤ) → a +ℤ pos 0 ≡ a
  and_nothing a = omega (arith, ints)

  pub value-multiple : (a : ℤ) (t : Term)
      → value_of e (multiple a t) ≡ a *ℤ number_of (meaning_of e t)
  value-multiple a (literal v) = and_nothing (a *ℤ number_of (val v))
  value-multiple a (variable x) = and_nothing (a *ℤ number_of (e x))
  value-multiple a (sum s t) =
      value-append (multiple a s) (multiple a t)
      ∙ (λ i. value-multiple a s i +ℤ value-multiple a t i)
      ∙ sym (mul-add a (number_of (meaning_of e s)) (number_of (meaning_of e t)))
  value-multiple a (difference s t) =
      value-append (multiple a s) (multiple (neg_ℤ a) t)
      ∙ (λ i. value-multiple a s i
      +ℤ (value-multiple (neg_ℤ a) t ∙ neg-mul a (number_of (meaning_of e t))) i)
      ∙ sym (mul-sub a (number_of (meaning_of e s)) (number_of (meaning_of e t)))
  value-multiple a (appended s t) = sym (*ℤ-zero a)

  pub value-minus : (f : Form) → value_of e (minus f) ≡ neg_ℤ (value_of e f)
  value-minus [] = refl
  value-minus (times a x ∷ f) =
      turned (neg_ℤ a *ℤ number_of (e x)) (a *ℤ number_of (e x)) (value_of e (minus f))
      (value_of e f)
      (neg-mul a (number_of (e x))) (value-minus f)
    where
      turned : (p q s t : ℤ) → p ≡ neg_ℤ q → s ≡ neg_ℤ t → p +ℤ s ≡ neg_ℤ (q +ℤ t)
      turned p q s t h g = omega (arith, ints)
  value-minus (plain a ∷ f) = turned a (value_of e (minus f)) (value_of e f) (value-minus f)
    where
      turned : (q s t : ℤ) → s ≡ neg_ℤ t → neg_ℤ q +ℤ s ≡ neg_ℤ (q +ℤ t)
      turned q s t g = omega (arith, ints)

-- without one variable
abbrev without : Var → Form → Form
without y [] = []
without y (times a x ∷ form) = cond (same_var y x) (without y form) (times a x ∷ without y form)
without y (plain a ∷ form) = plain a ∷ without y form

value-without : (e : Environment) (y : Var) (f : Form)
    → value_of e f ≡ coefficient y f *ℤ number_of (e y) +ℤ value_of e (without y f)
value-without e y [] = nothing (pos 0 *ℤ number_of (e y)) (zero-*ℤ (number_of (e y)))
  where
    nothing : (z : ℤ) → z ≡ pos 0 → pos 0 ≡ z +ℤ pos 0
    nothing z h = omega (arith, ints)
value-without e y (times a x ∷ f) = by_test (same_var y x) refl (value-without e y f)
  where
    here : (p q t s u w : ℤ) → p ≡ q → t ≡ s +ℤ u → w ≡ q +ℤ s → p +ℤ t ≡ w +ℤ u
    here p q t s u w h i j = omega (arith, ints)

    there : (p t s u w : ℤ) → t ≡ s +ℤ u → w ≡ s → p +ℤ t ≡ w +ℤ (p +ℤ u)
    there p t s u w i j = omega (arith, ints)

    nothing_more : (s : ℤ) → pos 0 +ℤ s ≡ s
    nothing_more s = omega (arith, ints)

    by_test : (b : Bool) → same_var y x ≡ b
        → value_of e f ≡ coefficient y f *ℤ number_of (e y) +ℤ value_of e (without y f)
        → a *ℤ number_of (e x) +ℤ value_of e f
        ≡ (cond b a (pos 0) +ℤ coefficient y f) *ℤ number_of (e y)
        +ℤ value_of e (cond b (without y f) (times a x ∷ without y f))
    by_test true q ih =
        here (a *ℤ number_of (e x)) (a *ℤ number_of (e y)) (value_of e f)
        (coefficient y f *ℤ number_of (e y))
        (value_of e (without y f)) ((a +ℤ coefficient y f) *ℤ number_of (e y))
        (ap (λ z. a *ℤ number_of (e z)) (sym (same_var-is y x q))) ih
        (add-mul a (coefficient y f) (number_of (e y)))
    by_test false q ih =
        there (a *ℤ number_of (e x)) (value_of e f) (coefficient y f *ℤ number_of (e y))
        (value_of e (without y f)) ((pos 0 +ℤ coefficient y f) *ℤ number_of (e y)) ih
        (ap (λ z. z *ℤ number_of (e y)) (nothing_more (coefficient y f)))
value-without e y (plain a ∷ f) =
    past a (value_of e f) (coefficient y f *ℤ number_of (e y)) (value_of e (without y f))
    (value-without e y f)
  where
    past : (p t s u : ℤ) → t ≡ s +ℤ u → p +ℤ t ≡ s +ℤ (p +ℤ u)
    past p t s u h = omega (arith, ints)

constant-without : (y : Var) (f : Form) → constant (without y f) ≡ constant f
constant-without y [] = refl
constant-without y (times a x ∷ f) = by_test (same_var y x) (constant-without y f)
  where
    by_test : (b : Bool) → constant (without y f) ≡ constant f
        → constant (cond b (without y f) (times a x ∷ without y f)) ≡ constant f
    by_test true ih = ih
    by_test false ih = ih
constant-without y (plain a ∷ f) = ap (λ z. a +ℤ z) (constant-without y f)

-- the variable doesn't count any more
coefficient-gone : (y : Var) (f : Form) → coefficient y (without y f) ≡ pos 0
coefficient-gone y [] = refl
coefficient-gone y (times a x ∷ f) = by_test (same_var y x) refl (coefficient-gone y f)
  where
    by_test : (b : Bool) → same_var y x ≡ b → coefficient y (without y f) ≡ pos 0
        → coefficient y (cond b (without y f) (times a x ∷ without y f)) ≡ pos 0
    by_test true q ih = ih
    by_test false q ih = (λ i. cond (q i) a (pos 0) +ℤ ih i)
coefficient-gone y (plain a ∷ f) = coefficient-gone y f

-- and each other one counts as before
coefficient-other : (y z : Var) → same_var z y ≡ false → (f : Form)
    → coefficient z (without y f) ≡ coefficient z f
coefficient-other y z n [] = refl
coefficient-other y z n (times a x ∷ f) =
    by_test (same_var y x) refl (coefficient-other y z n f)
  where
    skipped : (v : ℤ) → v ≡ pos 0 +ℤ v
    skipped v = omega (arith, ints)

    by_test : (b : Bool) → same_var y x ≡ b → coefficient z (without y f) ≡ coefficient z f
        → coefficient z (cond b (without y f) (times a x ∷ without y f))
        ≡ cond (same_var z x) a (pos 0) +ℤ coefficient z f
    by_test true q ih =
        ih ∙ skipped (coefficient z f)
        ∙ ap (λ b. cond b a (pos 0) +ℤ coefficient z f)
        (sym (subst (λ v. same_var z v ≡ false) (same_var-is y x q) n))
    by_test false q ih = ap (λ v. cond (same_var z x) a (pos 0) +ℤ v) ih
coefficient-other y z n (plain a ∷ f) = coefficient-other y z n f

-- no variable counts there that didn't before
coefficient-without : (y z : Var) (f : Form) → coefficient z f ≡ pos 0
    → coefficient z (without y f) ≡ pos 0
coefficient-without y z f h = by_test (same_var z y) refl
  where
    by_test : (b : Bool) → same_var z y ≡ b → coefficient z (without y f) ≡ pos 0
    by_test true q =
        subst (λ v. coefficient v (without y f) ≡ pos 0) (sym (same_var-is z y q))
        (coefficient-gone y f)
    by_test false q = coefficient-other y z q f ∙ h

length-without : (y : Var) (f : Form) → length (without y f) ≤ length f
length-without y [] = omega arith
length-without y (times a x ∷ f) = by_test (same_var y x) (length-without y f)
  where
    by_test : (b : Bool) → length (without y f) ≤ length f
        → length (cond b (without y f) (times a x ∷ without y f)) ≤ suc (length f)
    by_test true ih = omega arith
    by_test false ih = omega arith
length-without y (plain a ∷ f) =
    let ih : length (without y f) ≤ length f = length-without y f in omega arith

length-without_first : (a : ℤ) (x : Var) (f : Form)
    → length (without x (times a x ∷ f)) ≤ length f
length-without_first a x f =
    subst (λ b. length (cond b (without x f) (times a x ∷ without x f)) ≤ length f)
    (sym (same_var-refl x)) (length-without x f)

module _ (e : Environment) where
  where_none_counts : (n : ℕ) (f : Form) → length f ≤ n
      → ((x : Var) → coefficient x f ≡ pos 0) → value_of e f ≡ constant f
  where_none_counts n [] le h = refl
  where_none_counts zero (p ∷ f) le h = absurd (omega arith)
  where_none_counts (suc n) (plain a ∷ f) le h =
      ap (λ z. a +ℤ z) (where_none_counts n f (omega arith) h)
  where_none_counts (suc n) (times a y ∷ f) le h =
      value-without e y (times a y ∷ f)
      ∙ ap (λ z. z *ℤ number_of (e y) +ℤ value_of e (without y (times a y ∷ f))) (h y)
      ∙ gone (pos 0 *ℤ number_of (e y)) (value_of e (without y (times a y ∷ f)))
      (zero-*ℤ (number_of (e y)))
      ∙ where_none_counts n (without y (times a y ∷ f)) (omega (arith, length-without_first a y f))
      left
      ∙ constant-without y (times a y ∷ f)
    where
      gone : (z v : ℤ) → z ≡ pos 0 → z +ℤ v ≡ v
      gone z v q = omega (arith, ints)

      left : (x : Var) → coefficient x (without y (times a y ∷ f)) ≡ pos 0
      left x = coefficient-without y x (times a y ∷ f) (h x)

  counts-none : (x : Var) (parts form : Form) → none_counts parts form ≡ true
      → (coefficient x form ≡ pos 0) ⊎ (coefficient x parts ≡ pos 0)
  counts-none x [] form h = inr refl
  counts-none x (times a y ∷ parts) form h =
      let g : (int_eq (coefficient y form) (pos 0) ≡ true) × (none_counts parts form ≡ true) =
      both_true (int_eq (coefficient y form) (pos 0)) (none_counts parts form) h in
      by_test (same_var x y) refl g.0 (counts-none x parts form g.1)
    where
      by_test : (b : Bool) → same_var x y ≡ b → int_eq (coefficient y form) (pos 0) ≡ true
          → (coefficient x form ≡ pos 0) ⊎ (coefficient x parts ≡ pos 0)
          → (coefficient x form ≡ pos 0) ⊎ (cond b a (pos 0) +ℤ coefficient x parts ≡ pos 0)
      by_test true q g ih =
          inl
          (ap (λ z. coefficient z form) (same_var-is x y q)
          ∙ int-is (coefficient y form) (pos 0) g)
      by_test false q g (inl m) = inl m
      by_test false q g (inr m) = inr (ap (λ z. pos 0 +ℤ z) m)
  counts-none x (plain a ∷ parts) form h = counts-none x parts form h

  pub constant-means : (f : Form) → is_constant f ≡ true → value_of e f ≡ constant f
  constant-means f h =
      where_none_counts (length f) f (omega arith)
      (λ x. ⊎_elim (λ q. q) (λ q. q) (counts-none x f f h))
