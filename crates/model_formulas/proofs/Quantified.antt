-- What a quantifier over a variable says: for some, or each, thing of its sort the formula is met,
-- with the variable standing for that thing.
use Rattle.std.proofs.Common.{◌≡◌, refl, sym, ap, ◌∙◌, subst}
use mathlib.Core.Path.{fun_ext}
use Rattle.model_shapes.specs.Trees.{Trees}
use Rattle.model_shapes.specs.Sorts.{Sort}
use Rattle.model_shapes.specs.Things.{Thing}
use Rattle.model_formulas.specs.Formulas.{Formula}
use Rattle.model_terms.specs.Variables.{Var, var_sort}
use Rattle.model_terms.specs.VariableTests.{var_eq}
use Rattle.model_terms.specs.Terms.{Term, variable}
use Rattle.model_formulas.specs.Substitution.{formula_with, closing, replacing, exists, forall}
use Rattle.model_formulas.specs.Deciding.{closing_at, replacing_at}
use Rattle.model_formulas.specs.Satisfaction.{Environment, Meets, SomeThing, EachThing, choosing, meaning_of}
use Rattle.model_formulas.specs.Setting.{setting, setting_at}
use Rattle.model_formulas.proofs.Substitutes.{raised-meaning, after, with-meets}

-- closing over a variable, under a binder that has chosen a thing, sets the variable to it
pub closing-env : (x : Var) (v : Thing) (e : Environment)
    → after (closing x) (choosing v e) ≡ setting x v e
closing-env x v e = fun_ext (λ y. by_case y (var_eq y x))
  where
    by_case : (y : Var) (d : Dec (y ≡ x))
        → meaning_of (choosing v e) (closing_at d) ≡ setting_at v e d
    by_case y (yes q) = refl
    by_case y (no n) = raised-meaning e v (variable y)

-- replacing a variable by a term sets it to what the term stands for
pub replacing-env : (x : Var) (t : Term) (e : Environment)
    → after (replacing x t) e ≡ setting x (meaning_of e t) e
replacing-env x t e = fun_ext (λ y. by_case y (var_eq y x))
  where
    by_case : (y : Var) (d : Dec (y ≡ x))
        → meaning_of e (replacing_at t d) ≡ setting_at (meaning_of e t) e d
    by_case y (yes q) = refl
    by_case y (no n) = refl

module _ (x : Var) (p : Formula) (e : Environment) where
  -- the formula below the binder, with the variable set
  below : (v : Thing) → Meets (formula_with (closing x) p) (choosing v e) ≡ Meets p (setting x v e)
  below v = with-meets p (closing x) (choosing v e) ∙ ap (Meets p) (closing-env x v e)

  -- there is some
  pub exists-means : Meets (exists x p) e
      ≡ (λ s r. SomeThing (var_sort x) (λ v. Meets p (setting x v e) s r))
  exists-means = λ i s r. SomeThing (var_sort x) (λ v. below v i s r)

  -- each one
  pub forall-means : Meets (forall x p) e
      ≡ (λ s r. EachThing (var_sort x) (λ v. Meets p (setting x v e) s r))
  forall-means = λ i s r. EachThing (var_sort x) (λ v. below v i s r)

-- equal meanings are met alike
pub met-alike : {M N : Sort → Trees → Type 0} (s : Sort) (r : Trees) → M ≡ N
    → (M s r → N s r) × (N s r → M s r)
met-alike s r q = (subst (λ z. z s r) q, subst (λ z. z s r) (sym q))

-- what is equal to a fact that holds, holds
pub moved : {A B : Type 0} → A ≡ B → A → B
moved q a = subst (λ z. z) q a
