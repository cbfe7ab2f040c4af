-- The rows of the quantifiers, and the ways out of the adjoints.
use Rattle.model_formulas.proofs.Quantified.{closing-env, replacing-env}
use Rattle.model_formulas.specs.Setting.{setting, setting_at}
use Rattle.std.proofs.Common.{◌≡◌, ℕ, sym, refl, ap, ◌∙◌, subst, List, true}
use Rattle.model_formulas.proofs.Closed.{closed}
use Rattle.model_formulas.proofs.Stable.{stable}
use Rattle.model_formulas.proofs.Substitutes.{meets-agrees, meets-with, with-meets-back}
use Rattle.model_formulas.specs.Formulas.{Formula, application, conjunction, context_adjoint, equality, hole_adjoint}
use Rattle.model_formulas.specs.Satisfaction.{Entails, Environment, Meets, Proper, choosing, meaning_of}
use Rattle.model_formulas.specs.Substitution.{FreeIn, closing, exists, forall, formula_with, replacing}
use Rattle.model_terms.specs.Terms.{Term}
use Rattle.model_terms.specs.VariableTests.{var_eq}
use Rattle.model_terms.specs.Variables.{Var, logic, prog, var_sort}
use Rattle.model_shapes.proofs.Shapes.{SameAt-sym, same-Shaped}
use Rattle.model_shapes.specs.Sorts.{DataSort, Sort, ValueSort, is_sort, shape, value}
use Rattle.model_shapes.specs.Things.{Fits, Thing}
use Rattle.model_shapes.specs.Trees.{fill}

pub prog≢logic : (y n : List ℕ) (s : ValueSort) (u : Sort) → prog y s ≡ logic n u → ⊥
prog≢logic y n s u q = cc

pub setting-proper : (n : List ℕ) (u : Sort) (v : Thing) (e : Environment) → Fits u v → Proper e
    → Proper (setting (logic n u) v e)
setting-proper n u v e fits pr = record {
  programs = λ y s. programs y s (var_eq (prog y s) (logic n u));
  logics = λ y s sort. logics y s sort (var_eq (logic y s) (logic n u));
}
  where
    programs : (y : List ℕ) (s : ValueSort) (d : Dec (prog y s ≡ logic n u))
        → Fits (value s) (setting_at v e d)
    programs y s (yes q) = absurd (prog≢logic y n s u q)
    programs y s (no m) = pr.programs y s

    logics : (y : List ℕ) (s : Sort) → is_sort s ≡ true → (d : Dec (logic y s ≡ logic n u))
        → Fits s (setting_at v e d)
    logics y s sort (yes q) = subst (λ z. Fits z v) (sym (ap var_sort q)) fits
    logics y s sort (no m) = pr.logics y s sort

pub setting-agrees : (x : Var) (v : Thing) (e : Environment) (q : Formula) → (FreeIn x q → ⊥)
    → (y : Var) → FreeIn y q → setting x v e y ≡ e y
setting-agrees x v e q not_free y free = by_name (var_eq y x)
  where
    by_name : (d : Dec (y ≡ x)) → setting_at v e d ≡ e y
    by_name (yes z) = absurd (not_free (subst (λ z. FreeIn z q) z free))
    by_name (no n) = refl

agrees-setting : (x : Var) (v : Thing) (e : Environment) (q : Formula) → (FreeIn x q → ⊥)
    → (y : Var) → FreeIn y q → e y ≡ setting x v e y
agrees-setting x v e q not_free y free = sym (setting-agrees x v e q not_free y free)

module _ (n : List ℕ) (u : Sort) (p q : Formula) (s : Sort) where
  pub exists_out : Entails p q s → (FreeIn (logic n u) q → ⊥) → Entails (exists (logic n u) p) q s
  exists_out a not_free e pr t w h = stable q e s t (λ m. h (λ c.
      let v : Thing = c.0 in
      let here : Meets p (setting (logic n u) v e) s t = subst (λ z. Meets p z s t)
      (closing-env (logic n u) v e) (meets-with p (closing (logic n u)) (choosing v e) s t c.2)
      in
      m
      (meets-agrees q (setting (logic n u) v e) e s t (setting-agrees (logic n u) v e q not_free)
      (a (setting (logic n u) v e) (setting-proper n u v e c.1 pr) t w here))))

  pub forall_in : Entails p q s → (FreeIn (logic n u) p → ⊥) → Entails p (forall (logic n u) q) s
  forall_in a not_free e pr t w h = λ v fits.
      with-meets-back q (closing (logic n u)) (choosing v e) s t
      (subst (λ z. Meets q z s t) (sym (closing-env (logic n u) v e))
      (a (setting (logic n u) v e) (setting-proper n u v e fits pr) t w
      (meets-agrees p e (setting (logic n u) v e) s t (agrees-setting (logic n u) v e p not_free)
      h)))

-- a term that stands for a thing of its sort
abbrev pub Stands : Term → Sort → Type 0
Stands a u = (e : Environment) → Proper e → Fits u (meaning_of e a)

module _ (x : Var) (a : Term) (p : Formula) (s : Sort) (stands : Stands a (var_sort x)) where
  pub exists_in : Entails (formula_with (replacing x a) p) (exists x p) s
  exists_in e pr t w h = λ m. m (
    meaning_of e a,
    stands e pr,
    with-meets-back p (closing x) (choosing (meaning_of e a) e) s t
        (subst (λ z. Meets p z s t) (replacing-env x a e ∙ sym (closing-env x (meaning_of e a) e))
        (meets-with p (replacing x a) e s t h)),
  )

  pub forall_out : Entails (forall x p) (formula_with (replacing x a) p) s
  forall_out e pr t w h =
      with-meets-back p (replacing x a) e s t
      (subst (λ z. Meets p z s t) (closing-env x (meaning_of e a) e ∙ sym (replacing-env x a e))
      (meets-with p (closing x) (choosing (meaning_of e a) e) s t
      (h (meaning_of e a) (stands e pr))))

-- equal terms may stand for each other
pub eq_subst : (x : Var) (p : Formula) (a b : Term) (s : Sort)
    → Entails (conjunction (equality a b) (formula_with (replacing x a) p))
    (formula_with (replacing x b) p) s
eq_subst x p a b s e pr t w h =
    with-meets-back p (replacing x b) e s t
    (subst (λ z. Meets p z s t)
    (replacing-env x a e ∙ ap (λ v. setting x v e) h.0 ∙ sym (replacing-env x b e))
    (meets-with p (replacing x a) e s t h.1))

module _ (k p q : Formula) (h j : DataSort) where
  pub hole_adj_out : Entails (application h (hole_adjoint p q) p) q (shape j)
  hole_adj_out e pr t w m = stable q e (shape j) t (λ n. m (λ x. x.2 (λ y.
      n (closed q e (shape j) (fill x.0 y.0) t (SameAt-sym j t (fill x.0 y.0) y.2.0)
      (y.2.1 y.0 y.1 y.2.2 (same-Shaped (shape j) t (fill x.0 y.0) y.2.0 w))))))

  pub ctx_adj_out : Entails (application h k (context_adjoint j k q)) q (shape j)
  ctx_adj_out e pr t w m = stable q e (shape j) t (λ n. m (λ x. x.2 (λ y.
      n (closed q e (shape j) (fill x.0 y.0) t (SameAt-sym j t (fill x.0 y.0) y.2.0)
      (y.2.2 x.0 x.1 y.2.1 (same-Shaped (shape j) t (fill x.0 y.0) y.2.0 w))))))
