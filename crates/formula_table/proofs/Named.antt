-- What a variable is below binders, step by step.
use Rattle.std.proofs.Common.{◌≡◌, ℕ, suc, ◌+◌, ◌-◌, ◌≤◌, refl, ap, ◌∙◌, arith, List, [], ◌∷◌, false}
use Rattle.model_shapes.specs.Sorts.{Sort}
use Rattle.model_terms.specs.Variables.{Var, bound}
use Rattle.model_terms.specs.VariableTests.{same_var}
use Rattle.model_terms.specs.Terms.{Term, literal, variable, sum, difference, appended, term_with, raised_var}
use Rattle.model_formulas.specs.Nameless.{names, naming}
use Rattle.formula_syntax.proofs.BoundNames.{names-here, names-there, names-prog}

-- no binder changes nothing
pub below_none : (a : Term) → term_with (naming []) a ≡ a
below_none (literal v) = refl
below_none (variable x) = refl
below_none (sum a b) = λ j. sum (below_none a j) (below_none b j)
below_none (difference a b) = λ j. difference (below_none a j) (below_none b j)
below_none (appended a b) = λ j. appended (below_none a j) (below_none b j)

-- how many terms stand in a term, itself included
abbrev pub subterms : Term → ℕ
subterms (literal v) = 1
subterms (variable x) = 1
subterms (sum a b) = 1 + (subterms a + subterms b)
subterms (difference a b) = 1 + (subterms a + subterms b)
subterms (appended a b) = 1 + (subterms a + subterms b)

-- behind one binder more
pub passed_binder : (x y : Var) (ys : List Var) (p q i : ℕ) (s : Sort) → same_var x y ≡ false
    → q ≡ p + 1 → q ≤ i → names ys x ≡ bound (i - q) s
    → (p ≤ i) × (names (y ∷ ys) x ≡ bound (i - p) s)
passed_binder x y ys p q i s n e h k = (
  omega (arith, e, h),
  names-there x y ys n ∙ (ap raised_var k ∙ ap (λ j. bound j s) step),
)
  where
    step : suc (i - q) ≡ i - p
    step = omega (arith, e, h)

pub ruleset name_rules = (names-here, names-there)

pub ruleset term_rules = (names-prog, below_none)
