-- The value of a variable: some, cancel_app and the rows of `is`.
use Rattle.std.proofs.Common.{◌≡◌, sym, refl, subst}
use Rattle.model_shapes.specs.Sorts.{Sort, value, shape, context, DataSort, outer}
use Rattle.model_shapes.specs.Trees.{Trees, fill}
use Rattle.model_shapes.specs.Shapes.{Same, SameAt, Shaped}
use Rattle.model_shapes.specs.Things.{Thing, val, trees, Fits}
use Rattle.model_shapes.proofs.Shapes.{SameAt-sym, SameAt-trans}
use Rattle.model_shapes.proofs.Filling.{fill-left}
use Rattle.model_shapes.proofs.Cancelling.{cancel}
use Rattle.model_shapes.proofs.Representatives.{representative}
use Rattle.model_terms.specs.Variables.{Var, var_sort}
use Rattle.model_terms.specs.Terms.{Term, variable}
use Rattle.model_terms.specs.VariableTests.{var_eq}
use Rattle.model_formulas.specs.Formulas.{Formula, conjunction, application, same_as, value_meets}
use Rattle.model_formulas.specs.Substitution.{exists, FreeIn}
use Rattle.model_formulas.specs.Satisfaction.{Environment, Meets, Entails, IfTrees, meaning_of}
use Rattle.model_formulas.specs.Setting.{setting, setting_at}
use Rattle.model_formulas.proofs.Closed.{closed}
use Rattle.model_formulas.proofs.Quantified.{exists-means, met-alike}
use Rattle.entailment_laws.proofs.Quantified.{Stands}
use Rattle.entailment_laws.proofs.Classical.{◌>>=◌, surely}
use Rattle.entailment_laws.proofs.Contexts.{unset}
use Rattle.entailment_laws.proofs.Pieces.{put_in}

-- SOME
-- the variable that is set stands for the thing
pub set-here : (x : Var) (v : Thing) (e : Environment) → setting x v e x ≡ v
set-here x v e = at (var_eq x x)
  where
    at : (d : Dec (x ≡ x)) → setting_at v e d ≡ v
    at (yes q) = refl
    at (no n) = absurd (n refl)

pub some : (p : Formula) (x : Var) → (FreeIn x p → ⊥)
    → Entails p (exists x (conjunction (same_as (variable x)) p)) (var_sort x)
some p x fresh e pr r w m =
    (met-alike s r (exists-means x (conjunction (same_as (variable x)) p) e)).1
    (surely (trees first.0, first.2, (here, there)))
  where
    s : Sort
    s = var_sort x

    first : (r' : Trees) × Same s r r' × Fits s (trees r')
    first = representative s r w

    here : Meets (same_as (variable x)) (setting x (trees first.0) e) s r
    here = subst (λ z. IfTrees z (Same s r)) (sym (set-here x (trees first.0) e)) first.1

    there : Meets p (setting x (trees first.0) e) s r
    there = unset x p e s r (trees first.0) fresh m

-- WHAT IS THE SAME AS ONE VALUE
-- two that are the same as one thing
pub same_value : (x : Thing) (k : DataSort) (c c' : Trees)
    → IfTrees x (SameAt k c) → IfTrees x (SameAt k c') → SameAt k c c'
same_value (val v) k c c' m n = absurd m
same_value (trees t) k c c' m n = SameAt-trans k c t c' m (SameAt-sym k c' t n)

-- one context, up to sameness, in two ways: what is in it is the same
same_inside : (h k : DataSort) (r c c' d d' : Trees) → Shaped (context h k) c → Shaped (shape h) d'
    → SameAt k c' c → SameAt k r (fill c d) → SameAt k r (fill c' d') → SameAt h d' d
same_inside h k r c c' d d' wc wd' same one other =
    cancel h k c d' d wc.holes_fit wd'.width_fits (SameAt-trans k (fill c d') r (fill c d) back one)
  where
    back : SameAt k (fill c d') r
    back = SameAt-sym k r (fill c d')
        (SameAt-trans k r (fill c' d') (fill c d') other (fill-left k c' c d' same))

pub cancel_app : (a : Term) (p q : Formula) (h k : DataSort)
    → Entails (conjunction (application h (same_as a) p) (application h (same_as a) q))
    (application h (same_as a) (conjunction p q)) (shape k)
cancel_app a p q h k e pr r w m = do
  (c, wc, m1) ← m.0
  (d, wd, (one, mc, md)) ← m1
  (c', wc', m2) ← m.1
  (d', wd', (other, mc', md')) ← m2
  let same : SameAt k c' c = same_value (meaning_of e a) k c' c mc' mc
  let inside : SameAt h d' d = same_inside h k r c c' d d' wc wd' same one other
  put_in h (shape k) r (same_as a) (conjunction p q) e c d wc wd one mc
      (md, closed q e (shape h) d' d inside md')

-- IS
meets-each : (x : Thing) (P : Trees → Type 0) (s : Sort) (r : Trees) → IfTrees x (Same s r)
    → ((t : Trees) → Same s r t → P t) → IfTrees x P
meets-each (val v) P s r m f = absurd m
meets-each (trees t) P s r m f = f t m

meets-only : {C : Type 0} (x : Thing) (P : Trees → Type 0) (s : Sort) (r : Trees)
    → IfTrees x (Same s r) → IfTrees x P → ((t : Trees) → Same s r t → P t → C) → C
meets-only (val v) P s r m h f = absurd m
meets-only (trees t) P s r m h f = f t m h

meets-map : (u : Sort) (x : Thing) (P Q : Trees → Type 0) → Fits u x
    → ((t : Trees) → Shaped u t → P t → Q t) → IfTrees x P → IfTrees x Q
meets-map u (val v) P Q w f m = absurd m
meets-map (value v) (trees t) P Q w f m = absurd w
meets-map (shape k) (trees t) P Q w f m = f t w m
meets-map (context j k) (trees t) P Q w f m = f t w.0 m

module _ (a : Term) (p : Formula) (s : Sort) where
  pub is_in : Entails (conjunction (same_as a) p) (value_meets s a p) s
  is_in e pr r w m = meets-each (meaning_of e a) (Meets p e s) s r m.0
      (λ t same. closed p e s r t same m.1)

  pub is_out : Entails (conjunction (same_as a) (value_meets s a p)) p s
  is_out e pr r w m = meets-only (meaning_of e a) (Meets p e s) s r m.0 m.1
      (λ t same h. closed p e s t r (SameAt-sym (outer s) r t same) h)

pub is_mono : (a : Term) (u : Sort) → Stands a u → (p q : Formula) (s : Sort)
    → Entails p q u → Entails (value_meets u a p) (value_meets u a q) s
is_mono a u stands p q s h e pr r w m =
    meets-map u (meaning_of e a) (Meets p e u) (Meets q e u) (stands e pr) (λ t wt. h e pr t wt) m
