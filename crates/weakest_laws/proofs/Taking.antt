-- What the binders of the table come to: a value for a variable, and what is under one more binder.
use Rattle.std.proofs.Common.{◌≡◌, List, ℕ, refl, sym, ap, ◌∙◌, subst}
use mathlib.Core.HLevel.{Stable}
use mathlib.Core.Path.{fun_ext}
use Rattle.model_shapes.specs.Sorts.{Sort, value, ValueSort}
use Rattle.model_shapes.specs.Things.{Thing, val, trees, Fits}
use Rattle.model_shapes.specs.Trees.{Trees}
use Rattle.model_shapes.specs.Values.{Value, FitsValue}
use Rattle.model_terms.specs.Variables.{Var, prog, logic, bound}
use Rattle.model_terms.specs.Terms.{Term, variable, raised_var}
use Rattle.model_terms.specs.Computing.{Computes}
use Rattle.model_terms.specs.Stores.{ProgVar, as_var, sort_of, Store, set, lookup, value_of}
use Rattle.model_formulas.specs.Formulas.{Formula}
use Rattle.model_formulas.specs.Substitution.{formula_with, closing}
use Rattle.model_formulas.specs.Satisfaction.{Environment, Meets, SomeThing, choosing, with_store, meaning_of}
use Rattle.model_formulas.proofs.Substitutes.{with-meets, after}
use Rattle.model_formulas.proofs.Quantified.{closing-env}
use Rattle.model_commands.proofs.StoreLaws.{meaning-value}
use Rattle.entailment_laws.proofs.Plain.{val-is}
use Rattle.triple_laws.proofs.Endings.{set-env}
use Rattle.weakest_laws.specs.Table.{below, taking}

-- A term of a command stands for its value wherever the store's values are those of the program
-- variables.
pub plain-value : (s : ValueSort) (t : Term) (st : Store) (e : Environment)
    → ((x : List ℕ) (u : ValueSort) → e (prog x u) ≡ val (lookup st x u)) → Computes s t
    → meaning_of e t ≡ val (value_of st t)
plain-value s t st e h c =
    ap (λ z. meaning_of z t) (sym (fun_ext by_variable)) ∙ meaning-value s t st e c
  where
    by_variable : (x : Var) → with_store (lookup st) e x ≡ e x
    by_variable (prog x u) = sym (h x u)
    by_variable (logic x u) = refl
    by_variable (bound i u) = refl

-- so its value is known from what it stands for, and the other way round
pub value-is : (s : ValueSort) (t : Term) (st : Store) (e : Environment)
    → ((x : List ℕ) (u : ValueSort) → e (prog x u) ≡ val (lookup st x u)) → Computes s t
    → {v : Value} → val v ≡ meaning_of e t → value_of st t ≡ v
value-is s t st e h c {v} is =
    val-is (value_of st t) v (sym (plain-value s t st e h c) ∙ sym is)

pub stands-for : (s : ValueSort) (t : Term) (st : Store) (e : Environment)
    → ((x : List ℕ) (u : ValueSort) → e (prog x u) ≡ val (lookup st x u)) → Computes s t
    → {v : Value} → value_of st t ≡ v → val v ≡ meaning_of e t
stands-for s t st e h c is = ap val (sym is) ∙ sym (plain-value s t st e h c)

-- some thing of the sort, where one is given
pub some-thing : (s : Sort) {P : Thing → Type 0} (x : Thing) → Fits s x → P x → SomeThing s P
some-thing s x f p = λ n. n (x, f, p)

-- what a value sort has is a value
pub value-of-sort : (G : Type 0) (s : ValueSort) (P : Thing → Type 0) (v : Thing)
    → Fits (value s) v → P v → ((w : Value) → FitsValue s w → P (val w) → G) → G
value-of-sort G s P (val w) f p h = h w f p
value-of-sort G s P (trees r) f p h = absurd f

-- under one more binder a formula says what it said
pub below-meets : (q : Formula) (v : Thing) (e : Environment)
    → Meets (below q) (choosing v e) ≡ Meets q e
below-meets q v e =
    with-meets q (λ x. variable (raised_var x)) (choosing v e) ∙ ap (Meets q) (fun_ext by_variable)
  where
    by_variable : (x : Var) → after (λ x. variable (raised_var x)) (choosing v e) x ≡ e x
    by_variable (prog x s) = refl
    by_variable (logic x s) = refl
    by_variable (bound i s) = refl

module _ (e : Environment) (st : Store) where
  abbrev env : Environment
  env = with_store (lookup st) e

  -- with $v for a program variable, the formula says what it says of the store with that value
  pub closed-meets : (x : ProgVar) (v : Value) (q : Formula)
      → Meets (formula_with (closing (as_var x)) q) (choosing (val v) env)
      ≡ Meets q (with_store (lookup (set x v st)) e)
  closed-meets x v q =
      with-meets q (closing (as_var x)) (choosing (val v) env)
      ∙ ap (Meets q) (closing-env (as_var x) (val v) env ∙ sym (set-env x v st e))

  -- some value for the variable
  pub taken : (G : Type 0) → Stable G → (x : ProgVar) (p q : Formula) (s : Sort) (r : Trees)
      → Meets (taking x p q) env s r
      → ((w : Value) → FitsValue (sort_of x) w → Meets p (choosing (val w) env) s r
      → Meets q (with_store (lookup (set x w st)) e) s r → G) → G
  taken G stable x p q s r m f =
      stable (λ n. m (λ y.
      value-of-sort ⊥ (sort_of x) (λ v. Meets p (choosing v env) s r
      × Meets (formula_with (closing (as_var x)) q) (choosing v env) s r) y.0 y.1 y.2
      (λ w fits h. n (f w fits h.0 (subst (λ M. M s r) (closed-meets x w q) h.1)))))

  pub take : (x : ProgVar) (p q : Formula) (s : Sort) (r : Trees) (w : Value)
      → FitsValue (sort_of x) w → Meets p (choosing (val w) env) s r
      → Meets q (with_store (lookup (set x w st)) e) s r → Meets (taking x p q) env s r
  take x p q s r w fits mp mq = λ n. n (
    val w,
    fits,
    (mp, subst (λ M. M s r) (sym (closed-meets x w q)) mq),
  )
