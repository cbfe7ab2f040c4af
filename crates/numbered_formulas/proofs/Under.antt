-- What substitutions are below binders.
use Rattle.std.proofs.Common.{◌≡◌, ℕ, zero, suc, ◌+◌, ◌-◌, ◌<◌, ◌≤◌, Bool, true, false, cond, sym, refl, ap, ◌∙◌, arith}
use Rattle.model_shapes.specs.Sorts.{Sort, ValueSort}
use Rattle.model_shapes.specs.Values.{Name, Value}
use Rattle.model_shapes.specs.Trees.{decided}
use Rattle.model_terms.specs.Variables.{prog, logic, bound}
use Rattle.model_terms.specs.VariableTests.{same_var, same_var-is, same_var-not, decided_by}
use Rattle.model_terms.specs.Terms.{Term, literal, variable, sum, difference, appended, raised, raised_var, Substitution}
use Rattle.model_formulas.specs.Substitution.{closing}
use Rattle.model_formulas.specs.SameFormulas.{same_term}
use Rattle.rule_table.specs.Letters.{LogicVar, as_logic}
use Rattle.rule_table.proofs.Opening.{opening}
use Rattle.letter_bindings.specs.Shifts.{Shift, close, raise, open_with, shifting, under}
use Rattle.numbered_formulas.specs.Shifts.{raised_by}

-- TERMS BELOW MORE BINDERS
pub raised-literal : (n : ℕ) (v : Value) → raised_by n (literal v) ≡ literal v
raised-literal zero v = refl
raised-literal (suc n) v = ap raised (raised-literal n v)

pub raised-prog : (n : ℕ) (x : Name) (s : ValueSort)
    → raised_by n (variable (prog x s)) ≡ variable (prog x s)
raised-prog zero x s = refl
raised-prog (suc n) x s = ap raised (raised-prog n x s)

pub raised-logic : (n : ℕ) (x : Name) (s : Sort)
    → raised_by n (variable (logic x s)) ≡ variable (logic x s)
raised-logic zero x s = refl
raised-logic (suc n) x s = ap raised (raised-logic n x s)

pub raised-bound : (n i j : ℕ) (s : Sort) → j ≡ i + n
    → raised_by n (variable (bound i s)) ≡ variable (bound j s)
raised-bound zero i j s e = let h : i ≡ j = omega arith in ap (λ k. variable (bound k s)) h
raised-bound (suc n) i zero s e = absurd (omega arith)
raised-bound (suc n) i (suc j) s e = ap raised (raised-bound n i j s (omega arith))

pub raised-sum : (n : ℕ) (a b : Term)
    → raised_by n (sum a b) ≡ sum (raised_by n a) (raised_by n b)
raised-sum zero a b = refl
raised-sum (suc n) a b = ap raised (raised-sum n a b)

pub raised-difference : (n : ℕ) (a b : Term)
    → raised_by n (difference a b) ≡ difference (raised_by n a) (raised_by n b)
raised-difference zero a b = refl
raised-difference (suc n) a b = ap raised (raised-difference n a b)

pub raised-appended : (n : ℕ) (a b : Term)
    → raised_by n (appended a b) ≡ appended (raised_by n a) (raised_by n b)
raised-appended zero a b = refl
raised-appended (suc n) a b = ap raised (raised-appended n a b)

-- VARIABLES THAT ARE FREE
under-prog : (n : ℕ) (f : Substitution) (x : Name) (s : ValueSort)
    → under n f (prog x s) ≡ raised_by n (f (prog x s))
under-prog zero f x s = refl
under-prog (suc n) f x s = ap raised (under-prog n f x s)

under-logic : (n : ℕ) (f : Substitution) (x : Name) (s : Sort)
    → under n f (logic x s) ≡ raised_by n (f (logic x s))
under-logic zero f x s = refl
under-logic (suc n) f x s = ap raised (under-logic n f x s)

-- a program variable stays
pub prog_stays : (n : ℕ) (h : Shift) (x : Name) (s : ValueSort)
    → under n (shifting h) (prog x s) ≡ variable (prog x s)
prog_stays n (close y) x s = under-prog n (closing (as_logic y)) x s ∙ raised-prog n x s
prog_stays n raise x s = under-prog n (λ y. variable (raised_var y)) x s ∙ raised-prog n x s
prog_stays n (open_with e) x s = under-prog n (opening e) x s ∙ raised-prog n x s

-- one of the logic too, but where it is closed over
pub raise-stays : (n : ℕ) (x : Name) (s : Sort)
    → under n (shifting raise) (logic x s) ≡ variable (logic x s)
raise-stays n x s = under-logic n (λ y. variable (raised_var y)) x s ∙ raised-logic n x s

pub open-stays : (n : ℕ) (e : Term) (x : Name) (s : Sort)
    → under n (opening e) (logic x s) ≡ variable (logic x s)
open-stays n e x s = under-logic n (opening e) x s ∙ raised-logic n x s

by-test : {A B : Type 0} (b : Bool) (f : b ≡ true → A) (g : b ≡ false → A → ⊥) (x y : B)
    → decided (decided_by b f g) x y ≡ cond b x y
by-test true f g x y = refl
by-test false f g x y = refl

if-raised : (b : Bool) (n : ℕ) (c : LogicVar) (x : Name) (s : Sort)
    → raised_by n (cond b (variable (bound zero c.sort)) (variable (logic x s)))
    ≡ cond b (variable (bound n c.sort)) (variable (logic x s))
if-raised true n c x s = raised-bound n 0 n c.sort (omega arith)
if-raised false n c x s = raised-logic n x s

pub close-free : (n : ℕ) (c : LogicVar) (x : Name) (s : Sort)
    → under n (closing (as_logic c)) (logic x s)
    ≡ cond (same_var (logic x s) (as_logic c)) (variable (bound n c.sort)) (variable (logic x s))
close-free n c x s = under-logic n (closing (as_logic c)) x s
    ∙ (ap (raised_by n) (by-test (same_var (logic x s) (as_logic c))
    (same_var-is (logic x s) (as_logic c)) (same_var-not (logic x s) (as_logic c))
    (variable (bound zero c.sort)) (variable (logic x s)))
    ∙ if-raised (same_var (logic x s) (as_logic c)) n c x s)

-- VARIABLES THAT ARE BOUND
-- below the binders passed
pub bound-stays : (n i : ℕ) (f : Substitution) (s : Sort) → i < n
    → under n f (bound i s) ≡ variable (bound i s)
bound-stays zero i f s h = absurd (omega arith)
bound-stays (suc n) zero f s h = refl
bound-stays (suc n) (suc i) f s h = ap raised (bound-stays n i f s (omega arith))

-- outside them
under-past : (n i j : ℕ) (f : Substitution) (s : Sort) → j ≡ i + n
    → under n f (bound j s) ≡ raised_by n (f (bound i s))
under-past zero i j f s e = let h : j ≡ i = omega arith in ap (λ k. f (bound k s)) h
under-past (suc n) i zero f s e = absurd (omega arith)
under-past (suc n) i (suc j) f s e = ap raised (under-past n i j f s (omega arith))

pub bound-closed : (n i : ℕ) (c : LogicVar) (s : Sort) → n ≤ i
    → under n (closing (as_logic c)) (bound i s) ≡ variable (bound (i + 1) s)
bound-closed n i c s h = under-past n (i - n) i (closing (as_logic c)) s (omega arith)
    ∙ raised-bound n (suc (i - n)) (i + 1) s (omega arith)

pub bound-raised : (n i : ℕ) (s : Sort) → n ≤ i
    → under n (shifting raise) (bound i s) ≡ variable (bound (i + 1) s)
bound-raised n i s h = under-past n (i - n) i (λ y. variable (raised_var y)) s (omega arith)
    ∙ raised-bound n (suc (i - n)) (i + 1) s (omega arith)

pub bound-opened : (n i : ℕ) (e : Term) (s : Sort) → i ≡ n
    → under n (opening e) (bound i s) ≡ raised_by n e
bound-opened n i e s h = under-past n 0 i (opening e) s (omega arith)

pub bound-beyond : (n i : ℕ) (e : Term) (s : Sort) → n < i
    → under n (opening e) (bound i s) ≡ variable (bound (i - 1) s)
bound-beyond n i e s h = under-past n (suc (i - n - 1)) i (opening e) s (omega arith)
    ∙ raised-bound n (i - n - 1) (i - 1) s (omega arith)

-- WHAT THE TESTS ASK
module _ (h : Shift) (n i : ℕ) (s : Sort) (b : Term) (r : Bool) where
  pub stays_there : i < n → r ≡ same_term (variable (bound i s)) b
      → r ≡ same_term (under n (shifting h) (bound i s)) b
  stays_there k e = e ∙ sym (ap (λ a. same_term a b) (bound-stays n i (shifting h) s k))

  pub put_there : (e : Term) → h ≡ open_with e → i ≡ n → r ≡ same_term (raised_by n e) b
      → r ≡ same_term (under n (shifting h) (bound i s)) b
  put_there e o k q = q ∙ sym (ap (λ a. same_term a b)
      (ap (λ g. under n (shifting g) (bound i s)) o ∙ bound-opened n i e s k))

  pub goes_down : (e : Term) → h ≡ open_with e → n < i
      → r ≡ same_term (variable (bound (i - 1) s)) b
      → r ≡ same_term (under n (shifting h) (bound i s)) b
  goes_down e o k q = q ∙ sym (ap (λ a. same_term a b)
      (ap (λ g. under n (shifting g) (bound i s)) o ∙ bound-beyond n i e s k))

goes-up : (h : Shift) (n i : ℕ) (s : Sort) → ((e : Term) → h ≡ open_with e → ⊥) → n ≤ i
    → under n (shifting h) (bound i s) ≡ variable (bound (i + 1) s)
goes-up (close c) n i s o k = bound-closed n i c s k
goes-up raise n i s o k = bound-raised n i s k
goes-up (open_with e) n i s o k = absurd (o e refl)

pub goes_up : (h : Shift) (n i : ℕ) (s : Sort) (b : Term) (r : Bool)
    → ((e : Term) → h ≡ open_with e → ⊥) → n ≤ i → r ≡ same_term (variable (bound (i + 1) s)) b
    → r ≡ same_term (under n (shifting h) (bound i s)) b
goes_up h n i s b r o k q = q ∙ sym (ap (λ a. same_term a b) (goes-up h n i s o k))

pub ruleset raised_rules = (
  raised-literal,
  raised-prog,
  raised-logic,
  raised-bound,
  raised-sum,
  raised-difference,
  raised-appended,
)

-- a variable of the logic, where it is closed over, and where it isn't
module _ (h : Shift) (n : ℕ) (x : Name) (s : Sort) (b : Term) (r : Bool) where
  pub closed_over : (c : LogicVar) → h ≡ close c → same_var (logic x s) (as_logic c) ≡ true
      → r ≡ same_term (variable (bound n c.sort)) b
      → r ≡ same_term (under n (shifting h) (logic x s)) b
  closed_over c o t q = q ∙ sym (ap (λ a. same_term a b)
      (ap (λ g. under n (shifting g) (logic x s)) o ∙ (close-free n c x s
      ∙ ap (λ z. cond z (variable (bound n c.sort)) (variable (logic x s))) t)))

free-stays : (h : Shift) (n : ℕ) (x : Name) (s : Sort)
    → ((c : LogicVar) → h ≡ close c → same_var (logic x s) (as_logic c) ≡ false)
    → under n (shifting h) (logic x s) ≡ variable (logic x s)
free-stays (close c) n x s o = close-free n c x s
    ∙ ap (λ z. cond z (variable (bound n c.sort)) (variable (logic x s))) (o c refl)
free-stays raise n x s o = raise-stays n x s
free-stays (open_with e) n x s o = open-stays n e x s

pub stays_free : (h : Shift) (n : ℕ) (x : Name) (s : Sort) (b : Term) (r : Bool)
    → ((c : LogicVar) → h ≡ close c → same_var (logic x s) (as_logic c) ≡ false)
    → r ≡ same_term (variable (logic x s)) b
    → r ≡ same_term (under n (shifting h) (logic x s)) b
stays_free h n x s b r o q = q ∙ sym (ap (λ a. same_term a b) (free-stays h n x s o))
