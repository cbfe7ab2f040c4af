-- Laws of linear forms: what a sum, a difference and a negative count.
use Rattle.std.proofs.Common.{◌≡◌, ◌∙◌, refl, sym, ap, [], ◌∷◌, ◌++◌, Bool, true, false, ◌&&◌, cond, ℤ, ℕ, zero, suc, ◌*◌, pos, negsuc, ◌+ℤ◌, ◌*ℤ◌, neg_ℤ}
use Rattle.std.specs.Prelude.{int_le, nat_le}
use Rattle.std.proofs.Common.{arith}
use Rattle.std.proofs.lemmas.Bool.Decides.{nat_tests}
use Rattle.std.proofs.Math.IntN.{+ℤ_idl, +ℤ_assoc, +ℤ_comm, neg_ℤ-neg_ℤ, neg_ℤ-+ℤ, zero-*ℤ}
use Rattle.model_shapes.specs.Tests.{int_eq}
use Rattle.model_terms.specs.Variables.{Var}
use Rattle.model_terms.specs.VariableTests.{same_var}
use Rattle.model_terms.specs.Terms.{Term, literal, variable, sum, difference, appended}
use Rattle.model_shapes.specs.Things.{val}
use Rattle.model_formulas.specs.Satisfaction.{number_of}
use Rattle.computed_rules.specs.Linear.{shortfall}
use Rattle.rule_table.specs.Linear.{Form, times, plain, multiple, minus, rest, coefficient, constant, none_counts, is_constant, at_least_zero, is_zero}

-- a form behind another
pub coefficient-append : (x : Var) (f g : Form)
    → coefficient x (f ++ g) ≡ coefficient x f +ℤ coefficient x g
coefficient-append x [] g = sym (+ℤ_idl (coefficient x g))
coefficient-append x (times a y ∷ f) g =
    ap (λ z. cond (same_var x y) a (pos 0) +ℤ z) (coefficient-append x f g)
    ∙ sym (+ℤ_assoc (cond (same_var x y) a (pos 0)) (coefficient x f) (coefficient x g))
coefficient-append x (plain a ∷ f) g = coefficient-append x f g

pub constant-append : (f g : Form) → constant (f ++ g) ≡ constant f +ℤ constant g
constant-append [] g = sym (+ℤ_idl (constant g))
constant-append (times a y ∷ f) g = constant-append f g
constant-append (plain a ∷ f) g =
    ap (λ z. a +ℤ z) (constant-append f g) ∙ sym (+ℤ_assoc a (constant f) (constant g))

pub none-append : (f g h : Form) → none_counts (f ++ g) h ≡ (none_counts f h && none_counts g h)
none-append [] g h = refl
none-append (times a x ∷ f) g h =
    ap (λ z. int_eq (coefficient x h) (pos 0) && z) (none-append f g h)
    ∙ and-assoc (int_eq (coefficient x h) (pos 0)) (none_counts f h) (none_counts g h)
  where
    and-assoc : (a b c : Bool) → (a && (b && c)) ≡ ((a && b) && c)
    and-assoc true b c = refl
    and-assoc false b c = refl
none-append (plain a ∷ f) g h = none-append f g h

-- NEGATIVES
neg-cond : (b : Bool) (a : ℤ) → cond b (neg_ℤ a) (pos 0) ≡ neg_ℤ (cond b a (pos 0))
neg-cond true a = refl
neg-cond false a = refl

coefficient-minus : (x : Var) (f : Form) → coefficient x (minus f) ≡ neg_ℤ (coefficient x f)
coefficient-minus x [] = refl
coefficient-minus x (times a y ∷ f) =
    (λ i. neg-cond (same_var x y) a i +ℤ coefficient-minus x f i)
    ∙ sym (neg_ℤ-+ℤ (cond (same_var x y) a (pos 0)) (coefficient x f))
coefficient-minus x (plain a ∷ f) = coefficient-minus x f

constant-minus : (f : Form) → constant (minus f) ≡ neg_ℤ (constant f)
constant-minus [] = refl
constant-minus (times a y ∷ f) = constant-minus f
constant-minus (plain a ∷ f) =
    ap (λ z. neg_ℤ a +ℤ z) (constant-minus f) ∙ sym (neg_ℤ-+ℤ a (constant f))

none-minus : (f h : Form) → none_counts (minus f) h ≡ none_counts f h
none-minus [] h = refl
none-minus (times a x ∷ f) h = ap (λ z. int_eq (coefficient x h) (pos 0) && z) (none-minus f h)
none-minus (plain a ∷ f) h = none-minus f h

-- the numbers don't matter to what counts
pub none-multiple : (a b : ℤ) (t : Term) (h : Form)
    → none_counts (multiple a t) h ≡ none_counts (multiple b t) h
none-multiple a b (literal v) h = refl
none-multiple a b (variable x) h = refl
none-multiple a b (sum s t) h =
    none-append (multiple a s) (multiple a t) h
    ∙ (λ i. none-multiple a b s h i && none-multiple a b t h i)
    ∙ sym (none-append (multiple b s) (multiple b t) h)
none-multiple a b (difference s t) h =
    none-append (multiple a s) (multiple (neg_ℤ a) t) h
    ∙ (λ i. none-multiple a b s h i && none-multiple (neg_ℤ a) (neg_ℤ b) t h i)
    ∙ sym (none-append (multiple b s) (multiple (neg_ℤ b) t) h)
none-multiple a b (appended s t) h = refl

neg-times : (a b : ℤ) → neg_ℤ a *ℤ b ≡ neg_ℤ (a *ℤ b)
neg-times (pos zero) b = zero-*ℤ b ∙ sym (ap neg_ℤ (zero-*ℤ b))
neg-times (pos (suc m)) (pos n) = refl
neg-times (pos (suc m)) (negsuc n) = sym (neg_ℤ-neg_ℤ (pos (suc m * suc n)))
neg-times (negsuc m) (pos n) = sym (neg_ℤ-neg_ℤ (pos (suc m * n)))
neg-times (negsuc m) (negsuc n) = refl

coefficient-negative : (x : Var) (a : ℤ) (t : Term)
    → coefficient x (multiple (neg_ℤ a) t) ≡ neg_ℤ (coefficient x (multiple a t))
coefficient-negative x a (literal v) = refl
coefficient-negative x a (variable y) =
    (λ i. neg-cond (same_var x y) a i +ℤ pos 0)
    ∙ sym (neg_ℤ-+ℤ (cond (same_var x y) a (pos 0)) (pos 0))
coefficient-negative x a (sum s t) =
    coefficient-append x (multiple (neg_ℤ a) s) (multiple (neg_ℤ a) t)
    ∙ (λ i. coefficient-negative x a s i +ℤ coefficient-negative x a t i)
    ∙ sym (neg_ℤ-+ℤ (coefficient x (multiple a s)) (coefficient x (multiple a t)))
    ∙ sym (ap neg_ℤ (coefficient-append x (multiple a s) (multiple a t)))
coefficient-negative x a (difference s t) =
    coefficient-append x (multiple (neg_ℤ a) s) (multiple (neg_ℤ (neg_ℤ a)) t)
    ∙ (λ i. coefficient-negative x a s i +ℤ coefficient-negative x (neg_ℤ a) t i)
    ∙ sym (neg_ℤ-+ℤ (coefficient x (multiple a s)) (coefficient x (multiple (neg_ℤ a) t)))
    ∙ sym (ap neg_ℤ (coefficient-append x (multiple a s) (multiple (neg_ℤ a) t)))
coefficient-negative x a (appended s t) = refl

constant-negative : (a : ℤ) (t : Term)
    → constant (multiple (neg_ℤ a) t) ≡ neg_ℤ (constant (multiple a t))
constant-negative a (literal v) =
    ap (λ z. z +ℤ pos 0) (neg-times a (number_of (val v)))
    ∙ sym (neg_ℤ-+ℤ (a *ℤ number_of (val v)) (pos 0))
constant-negative a (variable y) = refl
constant-negative a (sum s t) =
    constant-append (multiple (neg_ℤ a) s) (multiple (neg_ℤ a) t)
    ∙ (λ i. constant-negative a s i +ℤ constant-negative a t i)
    ∙ sym (neg_ℤ-+ℤ (constant (multiple a s)) (constant (multiple a t)))
    ∙ sym (ap neg_ℤ (constant-append (multiple a s) (multiple a t)))
constant-negative a (difference s t) =
    constant-append (multiple (neg_ℤ a) s) (multiple (neg_ℤ (neg_ℤ a)) t)
    ∙ (λ i. constant-negative a s i +ℤ constant-negative (neg_ℤ a) t i)
    ∙ sym (neg_ℤ-+ℤ (constant (multiple a s)) (constant (multiple (neg_ℤ a) t)))
    ∙ sym (ap neg_ℤ (constant-append (multiple a s) (multiple (neg_ℤ a) t)))
constant-negative a (appended s t) = refl

-- F - E - S IS ZERO, or at least that, where S - (F - E) is zero, or at most that
turned : (f e s : ℤ) → (f +ℤ neg_ℤ e) +ℤ neg_ℤ s ≡ neg_ℤ (s +ℤ (e +ℤ neg_ℤ f))
turned f e s =
    +ℤ_comm (f +ℤ neg_ℤ e) (neg_ℤ s)
    ∙ ap (λ z. neg_ℤ s +ℤ z) (+ℤ_comm f (neg_ℤ e) ∙ ap (λ z. neg_ℤ e +ℤ z) (sym (neg_ℤ-neg_ℤ f))
    ∙ sym (neg_ℤ-+ℤ e (neg_ℤ f)))
    ∙ sym (neg_ℤ-+ℤ s (e +ℤ neg_ℤ f))

module _ (e f : Term) (s : Form) where
  coefficient-rest : (x : Var)
      → coefficient x (rest e f s) ≡ neg_ℤ (coefficient x (shortfall e f s))
  coefficient-rest x =
      coefficient-append x (multiple (pos 1) (difference f e)) (minus s)
      ∙ (λ i. coefficient-append x (multiple (pos 1) f) (multiple (neg_ℤ (pos 1)) e) i
      +ℤ coefficient-minus x s i)
      ∙ ap (λ z. (coefficient x (multiple (pos 1) f) +ℤ z) +ℤ neg_ℤ (coefficient x s))
      (coefficient-negative x (pos 1) e)
      ∙ turned (coefficient x (multiple (pos 1) f)) (coefficient x (multiple (pos 1) e))
      (coefficient x s)
      ∙ ap neg_ℤ (sym (coefficient-append x s (multiple (pos 1) (difference e f))
      ∙ ap (λ z. coefficient x s +ℤ z)
      (coefficient-append x (multiple (pos 1) e) (multiple (neg_ℤ (pos 1)) f)
      ∙ ap (λ z. coefficient x (multiple (pos 1) e) +ℤ z) (coefficient-negative x (pos 1) f))))

  pub constant-rest : constant (rest e f s) ≡ neg_ℤ (constant (shortfall e f s))
  constant-rest =
      constant-append (multiple (pos 1) (difference f e)) (minus s)
      ∙ (λ i. constant-append (multiple (pos 1) f) (multiple (neg_ℤ (pos 1)) e) i
      +ℤ constant-minus s i)
      ∙ ap (λ z. (constant (multiple (pos 1) f) +ℤ z) +ℤ neg_ℤ (constant s))
      (constant-negative (pos 1) e)
      ∙ turned (constant (multiple (pos 1) f)) (constant (multiple (pos 1) e)) (constant s)
      ∙ ap neg_ℤ (sym (constant-append s (multiple (pos 1) (difference e f))
      ∙ ap (λ z. constant s +ℤ z)
      (constant-append (multiple (pos 1) e) (multiple (neg_ℤ (pos 1)) f)
      ∙ ap (λ z. constant (multiple (pos 1) e) +ℤ z) (constant-negative (pos 1) f))))

  parts-rest : (h : Form) → none_counts (rest e f s) h ≡ none_counts (shortfall e f s) h
  parts-rest h =
      none-append (multiple (pos 1) (difference f e)) (minus s) h
      ∙ (λ i. none-append (multiple (pos 1) f) (multiple (neg_ℤ (pos 1)) e) h i
      && none-minus s h i)
      ∙ moved (none_counts (multiple (pos 1) f) h) (none_counts (multiple (neg_ℤ (pos 1)) e) h)
      (none_counts s h)
      ∙ (λ i. none_counts s h && (none-multiple (neg_ℤ (pos 1)) (pos 1) e h i
      && none-multiple (pos 1) (neg_ℤ (pos 1)) f h i))
      ∙ sym (none-append s (multiple (pos 1) (difference e f)) h
      ∙ ap (λ z. none_counts s h && z)
      (none-append (multiple (pos 1) e) (multiple (neg_ℤ (pos 1)) f) h))
    where
      moved : (a b c : Bool) → ((a && b) && c) ≡ (c && (b && a))
      moved true true true = refl
      moved true true false = refl
      moved true false true = refl
      moved true false false = refl
      moved false true true = refl
      moved false true false = refl
      moved false false true = refl
      moved false false false = refl

  not-below : (n : ℕ) → nat_le (suc n) 0 ≡ false
  not-below n = grind (arith, nat_tests)

  above : (n : ℕ) → nat_le 0 (suc n) ≡ true
  above n = grind (arith, nat_tests)

  negative-zero : (a : ℤ) → int_eq (neg_ℤ a) (pos 0) ≡ int_eq a (pos 0)
  negative-zero (pos zero) = refl
  negative-zero (pos (suc n)) = λ i. sym (not-below n) i && nat_le 0 (suc n)
  negative-zero (negsuc n) = λ i. not-below n i && nat_le 0 (suc n)

  negative-least : (a : ℤ) → int_le (pos 0) (neg_ℤ a) ≡ int_le a (pos 0)
  negative-least (pos zero) = refl
  negative-least (pos (suc n)) = sym (not-below n)
  negative-least (negsuc n) = above n

  none-like : (g h k : Form)
      → ((x : Var) → int_eq (coefficient x h) (pos 0) ≡ int_eq (coefficient x k) (pos 0))
      → none_counts g h ≡ none_counts g k
  none-like [] h k same = refl
  none-like (times a x ∷ g) h k same = λ i. same x i && none-like g h k same i
  none-like (plain a ∷ g) h k same = none-like g h k same

  constant-like : is_constant (rest e f s) ≡ is_constant (shortfall e f s)
  constant-like =
      parts-rest (rest e f s)
      ∙ none-like (shortfall e f s) (rest e f s) (shortfall e f s)
      (λ x. ap (λ z. int_eq z (pos 0)) (coefficient-rest x)
      ∙ negative-zero (coefficient x (shortfall e f s)))

  pub rest-least : at_least_zero (rest e f s)
      ≡ (is_constant (shortfall e f s) && int_le (constant (shortfall e f s)) (pos 0))
  rest-least =
      (λ i. constant-like i && int_le (pos 0) (constant-rest i))
      ∙ ap (λ z. is_constant (shortfall e f s) && z) (negative-least (constant (shortfall e f s)))

  pub rest-zero : is_zero (rest e f s) ≡ is_zero (shortfall e f s)
  rest-zero =
      (λ i. constant-like i && int_eq (constant-rest i) (pos 0))
      ∙ ap (λ z. is_constant (shortfall e f s) && z) (negative-zero (constant (shortfall e f s)))
