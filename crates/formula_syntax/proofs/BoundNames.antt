-- No binder binds a program variable.
use Rattle.std.proofs.Common.{◌≡◌, ℕ, List, ◌∷◌, refl, sym, ap, ◌∙◌, true, false}
use Rattle.model_shapes.specs.Sorts.{ValueSort, Sort}
use Rattle.model_terms.specs.Variables.{Var, bound, logic, prog, var_sort}
use Rattle.model_terms.specs.Terms.{raised_var}
use Rattle.model_formulas.specs.Nameless.{names}
use Rattle.model_formulas.specs.Deciding.{name_or}
use Rattle.model_formulas.proofs.SameFormulas.{same_formula-Decides}
use Rattle.model_shapes.proofs.Truth.{false≢true}
use Rattle.model_terms.specs.VariableTests.{same_var-is, same_var-refl, var_eq, same_var}
use Rattle.dom_terms.specs.Sorts.{sort_of}
use Rattle.dom_terms.specs.Terms.{logic_var_of}
use Rattle.formula_syntax.specs.declared.binders.Binders.{Binders}
use Rattle.formula_syntax.specs.declared.binders.Binders.TheVariants as b
use Rattle.formula_syntax.specs.Binders.{bound_by}

-- below a binder with this name the variable is the nearest bound one
pub names-here : (x y : Var) (ys : List Var) → same_var x y ≡ true
    → names (y ∷ ys) x ≡ bound 0 (var_sort x)
names-here x y ys e = by_decision (var_eq x y)
  where
    by_decision : (d : Dec (x ≡ y)) → name_or (names ys x) d ≡ bound 0 (var_sort x)
    by_decision (yes q) = ap (λ z. bound 0 (var_sort z)) (sym q)
    by_decision (no n) = absurd (n (same_var-is x y e))

-- below a binder with another name it is what it is further out
pub names-there : (x y : Var) (ys : List Var) → same_var x y ≡ false
    → names (y ∷ ys) x ≡ raised_var (names ys x)
names-there x y ys e = by_decision (var_eq x y)
  where
    by_decision : (d : Dec (x ≡ y)) → name_or (names ys x) d ≡ raised_var (names ys x)
    by_decision (yes q) = false≢true (sym e ∙ ap (same_var x) (sym q) ∙ same_var-refl x)
    by_decision (no n) = refl

apart : (x y : List ℕ) (s : ValueSort) (u : Sort) → prog x s ≡ logic y u → ⊥
apart x y s u e = cc

step : (x y : List ℕ) (s : ValueSort) (u : Sort) (t : Var) → t ≡ prog x s →
    (d : Dec (prog x s ≡ logic y u)) → name_or t d ≡ prog x s
step x y s u t e (yes q) = absurd (apart x y s u q)
step x y s u t e (no m) = ap raised_var e

pub names-prog : (xs : Binders) (x : List ℕ) (s : ValueSort) →
    names (bound_by xs) (prog x s) ≡ prog x s
names-prog b.Empty x s = refl
names-prog (b.More' y q rest) x s =
    step x y.now.name s (sort_of y.now.sort) (names (bound_by rest) (prog x s))
    (names-prog rest x s) (var_eq (prog x s) (logic_var_of y.now))

-- a logic variable stands for none
not_prog : Var → Type 0
not_prog z = (x : List ℕ) (s : ValueSort) →
    (same_var (prog x s) z ≡ false) × (same_var z (prog x s) ≡ false)

raised-not_prog : (z : Var) → not_prog z → not_prog (raised_var z)
unfolding not_prog
raised-not_prog (prog x s) h = h
raised-not_prog (logic x s) h = h
raised-not_prog (bound i s) h = λ x s. (refl, refl)

names-not_prog : (ys : Binders) (x : List ℕ) (u : Sort) →
    not_prog (names (bound_by ys) (logic x u))
unfolding not_prog
names-not_prog b.Empty x u = λ y s. (refl, refl)
names-not_prog (b.More' y q rest) x u =
    by_decision (var_eq (logic x u) (logic_var_of y.now)) (names-not_prog rest x u)
  where
    by_decision : (d : Dec (logic x u ≡ logic_var_of y.now)) →
        not_prog (names (bound_by rest) (logic x u)) →
        not_prog (name_or (names (bound_by rest) (logic x u)) d)
    by_decision (yes e) h = λ y s. (refl, refl)
    by_decision (no n) h = raised-not_prog (names (bound_by rest) (logic x u)) h

pub prog-logic : (xs ys : Binders) (x y : List ℕ) (s : ValueSort) (u : Sort) →
    same_var (names (bound_by xs) (prog x s)) (names (bound_by ys) (logic y u)) ≡ false
unfolding not_prog
prog-logic xs ys x y s u =
    ap (λ z. same_var z (names (bound_by ys) (logic y u))) (names-prog xs x s)
    ∙ (names-not_prog ys y u x s).0

pub logic-prog : (xs ys : Binders) (x y : List ℕ) (s : Sort) (u : ValueSort) →
    same_var (names (bound_by xs) (logic x s)) (names (bound_by ys) (prog y u)) ≡ false
unfolding not_prog
logic-prog xs ys x y s u =
    ap (λ z. same_var (names (bound_by xs) (logic x s)) z) (names-prog ys y u)
    ∙ (names-not_prog xs x s y u).1

pub ruleset prog_rules = (names-prog, prog-logic, logic-prog)

pub ruleset place_rules = (names-here, names-there)

pub ruleset formula_rules = (same_formula-Decides)
