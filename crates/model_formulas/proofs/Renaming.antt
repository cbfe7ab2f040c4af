-- Only the free variables of a formula are substituted, so bound variables may be renamed.
use Rattle.std.proofs.Common.{◌≡◌, zero, suc, sym, refl, ap, ◌∙◌, subst, inl, inr}
use Rattle.model_formulas.specs.Formulas.{Formula, truth, falsity, conjunction, disjunction, implication, negation, existential, universal, equality, at_most, empty, bare_hole, node_formula, one_tree, one_root, concatenation, grove_sum, grove_sum_hole, application, hole_adjoint, context_adjoint, same_as, length_is, value_meets}
use Rattle.model_terms.specs.Variables.{Var, prog, logic, bound, var_sort}
use Rattle.model_terms.specs.VariableTests.{var_eq}
use Rattle.model_terms.specs.Terms.{Term, literal, variable, sum, difference, appended, raised, raised_var, under_binder, Substitution, term_with, InTerm}
use Rattle.model_formulas.specs.Substitution.{formula_with, FreeIn, closing, replacing, exists, forall}
use Rattle.model_formulas.specs.Deciding.{closing_at, replacing_at}
use Rattle.model_formulas.proofs.Nameless.{then_with, formula-then}

-- a term sees the variables that stand in it alone
term-alike : (t : Term) (f g : Substitution) → ((x : Var) → InTerm x t → f x ≡ g x)
    → term_with f t ≡ term_with g t
term-alike (literal v) f g h = refl
term-alike (variable x) f g h = h x refl
term-alike (sum a b) f g h = λ j.
    sum (term-alike a f g (λ x m. h x (inl m)) j) (term-alike b f g (λ x m. h x (inr m)) j)
term-alike (difference a b) f g h = λ j.
    difference (term-alike a f g (λ x m. h x (inl m)) j) (term-alike b f g (λ x m. h x (inr m)) j)
term-alike (appended a b) f g h = λ j.
    appended (term-alike a f g (λ x m. h x (inl m)) j) (term-alike b f g (λ x m. h x (inr m)) j)

alike-under : (p : Formula) (f g : Substitution)
    → ((x : Var) → FreeIn (raised_var x) p → f x ≡ g x)
    → (x : Var) → FreeIn x p → under_binder f x ≡ under_binder g x
alike-under p f g h (prog x s) m = ap raised (h (prog x s) m)
alike-under p f g h (logic x s) m = ap raised (h (logic x s) m)
alike-under p f g h (bound zero s) m = refl
alike-under p f g h (bound (suc i) s) m = ap raised (h (bound i s) m)

-- substitutions that agree on the free variables give the same formula
pub with-alike : (p : Formula) (f g : Substitution) → ((x : Var) → FreeIn x p → f x ≡ g x)
    → formula_with f p ≡ formula_with g p
with-alike truth f g h = refl
with-alike falsity f g h = refl
with-alike (conjunction p q) f g h =
    λ j. conjunction (with-alike p f g (λ x m. h x (inl m)) j)
    (with-alike q f g (λ x m. h x (inr m)) j)
with-alike (disjunction p q) f g h =
    λ j. disjunction (with-alike p f g (λ x m. h x (inl m)) j)
    (with-alike q f g (λ x m. h x (inr m)) j)
with-alike (implication p q) f g h =
    λ j. implication (with-alike p f g (λ x m. h x (inl m)) j)
    (with-alike q f g (λ x m. h x (inr m)) j)
with-alike (negation p) f g h = λ j. negation (with-alike p f g h j)
with-alike (existential s p) f g h =
    λ j. existential s (with-alike p (under_binder f) (under_binder g) (alike-under p f g h) j)
with-alike (universal s p) f g h =
    λ j. universal s (with-alike p (under_binder f) (under_binder g) (alike-under p f g h) j)
with-alike (equality a b) f g h =
    λ j. equality (term-alike a f g (λ x m. h x (inl m)) j)
    (term-alike b f g (λ x m. h x (inr m)) j)
with-alike (at_most a b) f g h =
    λ j. at_most (term-alike a f g (λ x m. h x (inl m)) j) (term-alike b f g (λ x m. h x (inr m)) j)
with-alike (empty k) f g h = refl
with-alike (bare_hole k) f g h = refl
with-alike (node_formula n i p l) f g h =
    λ j. node_formula (term-alike n f g (λ x m. h x (inl m)) j)
    (term-alike i f g (λ x m. h x (inr (inl m))) j)
    (with-alike p f g (λ x m. h x (inr (inr (inl m)))) j)
    (term-alike l f g (λ x m. h x (inr (inr (inr m)))) j)
with-alike (one_tree p) f g h = λ j. one_tree (with-alike p f g h j)
with-alike (one_root p) f g h = λ j. one_root (with-alike p f g h j)
with-alike (concatenation d p q) f g h =
    λ j. concatenation d (with-alike p f g (λ x m. h x (inl m)) j)
    (with-alike q f g (λ x m. h x (inr m)) j)
with-alike (grove_sum p q) f g h =
    λ j. grove_sum (with-alike p f g (λ x m. h x (inl m)) j)
    (with-alike q f g (λ x m. h x (inr m)) j)
with-alike (grove_sum_hole p q) f g h =
    λ j. grove_sum_hole (with-alike p f g (λ x m. h x (inl m)) j)
    (with-alike q f g (λ x m. h x (inr m)) j)
with-alike (application k p q) f g h =
    λ j. application k (with-alike p f g (λ x m. h x (inl m)) j)
    (with-alike q f g (λ x m. h x (inr m)) j)
with-alike (hole_adjoint p q) f g h =
    λ j. hole_adjoint (with-alike p f g (λ x m. h x (inl m)) j)
    (with-alike q f g (λ x m. h x (inr m)) j)
with-alike (context_adjoint k p q) f g h =
    λ j. context_adjoint k (with-alike p f g (λ x m. h x (inl m)) j)
    (with-alike q f g (λ x m. h x (inr m)) j)
with-alike (same_as a) f g h = λ j. same_as (term-alike a f g h j)
with-alike (length_is a) f g h = λ j. length_is (term-alike a f g h j)
with-alike (value_meets u a p) f g h =
    λ j. value_meets u (term-alike a f g (λ x m. h x (inl m)) j)
    (with-alike p f g (λ x m. h x (inr m)) j)

-- closing over a variable is renaming it and closing over the other
closed-alike : (x y : Var) (p : Formula) → var_sort x ≡ var_sort y → (FreeIn y p → ⊥)
    → formula_with (closing x) p
    ≡ formula_with (closing y) (formula_with (replacing x (variable y)) p)
closed-alike x y p same not_free =
    with-alike p (closing x) (then_with (replacing x (variable y)) (closing y))
    (λ z free. by_case z free (var_eq z x))
    ∙ sym (formula-then p (replacing x (variable y)) (closing y))
  where
    at-name : (d : Dec (y ≡ y)) → variable (bound zero (var_sort x)) ≡ closing_at {x = y} d
    at-name (yes q) = ap (λ u. variable (bound zero u)) same
    at-name (no n) = absurd (n refl)

    at-other : (z : Var) → FreeIn z p → (d : Dec (z ≡ y)) → raised (variable z) ≡ closing_at d
    at-other z free (yes q) = absurd (not_free (subst (λ u. FreeIn u p) q free))
    at-other z free (no n) = refl

    by_case : (z : Var) → FreeIn z p → (d : Dec (z ≡ x))
        → closing_at d ≡ term_with (closing y) (replacing_at (variable y) d)
    by_case z free (yes q) = at-name (var_eq y y)
    by_case z free (no n) = at-other z free (var_eq z y)

-- a bound variable may be renamed to one that isn't free
pub exists-renamed : (x y : Var) (p : Formula) → var_sort x ≡ var_sort y → (FreeIn y p → ⊥)
    → exists x p ≡ exists y (formula_with (replacing x (variable y)) p)
exists-renamed x y p same not_free = λ j. existential (same j) (closed-alike x y p same not_free j)

-- the same under the other quantifier
pub forall-renamed : (x y : Var) (p : Formula) → var_sort x ≡ var_sort y → (FreeIn y p → ⊥)
    → forall x p ≡ forall y (formula_with (replacing x (variable y)) p)
forall-renamed x y p same not_free = λ j. universal (same j) (closed-alike x y p same not_free j)
