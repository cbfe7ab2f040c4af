-- What "for some" and "or" leave: app_exists_part, app_exists_ctx, app_or_part and app_or_ctx.
use Rattle.std.proofs.Common.{sym, inl, inr, ⊎_elim}
use Rattle.model_shapes.specs.Sorts.{Sort, context, DataSort, outer, with_outer}
use Rattle.model_shapes.specs.Things.{Thing}
use Rattle.model_shapes.specs.Trees.{Trees}
use Rattle.model_terms.specs.Variables.{Var}
use Rattle.model_formulas.specs.Formulas.{Formula, disjunction, application}
use Rattle.model_formulas.specs.Substitution.{exists, FreeIn}
use Rattle.model_formulas.specs.Satisfaction.{Environment, Meets, Entails}
use Rattle.model_formulas.specs.Setting.{setting}
use Rattle.model_formulas.proofs.Quantified.{exists-means, met-alike}
use Rattle.model_formulas.proofs.Substitutes.{meets-agrees}
use Rattle.entailment_laws.proofs.Quantified.{setting-agrees}
use Rattle.entailment_laws.proofs.Classical.{◌>>=◌, surely}
use Rattle.entailment_laws.proofs.Pieces.{put_in}

-- a formula in which the variable isn't free, where the variable is set to a thing
pub unset : (x : Var) (p : Formula) (e : Environment) (s : Sort) (r : Trees) (v : Thing)
    → (FreeIn x p → ⊥) → Meets p e s r → Meets p (setting x v e) s r
unset x p e s r v fresh = meets-agrees p e (setting x v e) s r
    (λ y free. sym (setting-agrees x v e p fresh y free))

module _ (k p : Formula) (x : Var) (h : DataSort) (s : Sort) where
  pub app_exists_part : (FreeIn x k → ⊥)
      → Entails (application h k (exists x p)) (exists x (application h k p)) s
  app_exists_part fresh e pr r w m =
      (met-alike s r (exists-means x (application h k p) e)).1 (do
        (c, wc, m1) ← m
        (d, wd, (same, mc, mx)) ← m1
        (v, fits, md) ← (met-alike (with_outer h s) d (exists-means x p e)).0 mx
        surely (
          v,
          fits,
          put_in h s r k p (setting x v e) c d wc wd same
              (unset x k e (context h (outer s)) c v fresh mc) md,
        ))

  pub app_exists_ctx : (FreeIn x p → ⊥)
      → Entails (application h (exists x k) p) (exists x (application h k p)) s
  app_exists_ctx fresh e pr r w m =
      (met-alike s r (exists-means x (application h k p) e)).1 (do
        (c, wc, m1) ← m
        (d, wd, (same, mx, md)) ← m1
        (v, fits, mc) ← (met-alike (context h (outer s)) c (exists-means x k e)).0 mx
        surely (
          v,
          fits,
          put_in h s r k p (setting x v e) c d wc wd same mc
              (unset x p e (with_outer h s) d v fresh md),
        ))

module _ (k k' p q : Formula) (h : DataSort) (s : Sort) where
  pub app_or_part : Entails (application h k (disjunction p q))
      (disjunction (application h k p) (application h k q)) s
  app_or_part e pr r w m = do
    (c, wc, m1) ← m
    (d, wd, (same, mc, mo)) ← m1
    o ← mo
    surely (⊎_elim (λ x. inl (put_in h s r k p e c d wc wd same mc x))
        (λ x. inr (put_in h s r k q e c d wc wd same mc x)) o)

  pub app_or_ctx : Entails (application h (disjunction k k') p)
      (disjunction (application h k p) (application h k' p)) s
  app_or_ctx e pr r w m = do
    (c, wc, m1) ← m
    (d, wd, (same, mo, md)) ← m1
    o ← mo
    surely (⊎_elim (λ x. inl (put_in h s r k p e c d wc wd same x md))
        (λ x. inr (put_in h s r k' p e c d wc wd same x md)) o)
