-- The rules eliminate and instance, for runs of at most n steps.
use Rattle.std.proofs.Common.{◌≡◌, ℕ, List, [], ◌∷◌, refl, sym, ap, ◌∙◌, subst}
use mathlib.Core.Path.{fun_ext}
use Rattle.model_shapes.specs.Shapes.{Shaped, SameAt}
use Rattle.model_shapes.specs.Sorts.{DataSort, Sort, shape, grove, ValueSort}
use Rattle.model_shapes.specs.Things.{val, Thing, Fits}
use Rattle.model_shapes.specs.Trees.{Trees, fill}
use Rattle.model_formulas.specs.Formulas.{Formula}
use Rattle.model_formulas.specs.Satisfaction.{Environment, Meets, Proper, with_store, meaning_of, choosing}
use Rattle.model_formulas.specs.Setting.{setting, setting_at}
use Rattle.model_formulas.specs.Substitution.{exists, closing, formula_with, replacing}
use Rattle.model_terms.specs.Terms.{Term, InTerm}
use Rattle.model_terms.specs.VariableTests.{var_eq}
use Rattle.model_terms.specs.Variables.{bound, Var, prog, logic}
use Rattle.model_formulas.proofs.Quantified.{closing-env, replacing-env}
use Rattle.model_formulas.proofs.Substitutes.{meets-with, with-meets-back, after}
use Rattle.model_commands.specs.Commands.{Command, Modifies}
use Rattle.model_commands.specs.SortTests.{BodiesSorted}
use Rattle.model_machine.specs.Machine.{run}
use Rattle.model_terms.specs.Stores.{Store, lookup, ProgVar, as_var}
use Rattle.model_commands.specs.Theories.{Procedures}
use Rattle.model_machine.proofs.Runs.{Well, Well-map}
use Rattle.triple_laws.proofs.Ends.{At, Sound}
use Rattle.entailment_laws.proofs.Quantified.{prog≢logic, setting-proper}
use Rattle.triple_laws.proofs.Keeping.{Well-stable, Kept, with-kept, kept-agrees}
use Rattle.triple_laws.proofs.Passing.{meaning-agrees}

-- a logic variable may be set beside the store
module _ (n : List ℕ) (u : Sort) (v : Thing) (st : Store) (e : Environment) where
  setting-joint : setting (logic n u) v (with_store (lookup st) e)
      ≡ with_store (lookup st) (setting (logic n u) v e)
  setting-joint = fun_ext at
    where
      at_program : (x : List ℕ) (s : ValueSort) (d : Dec (prog x s ≡ logic n u))
          → setting_at v (with_store (lookup st) e) d ≡ val (lookup st x s)
      at_program x s (yes q) = absurd (prog≢logic x n s u q)
      at_program x s (no m) = refl

      at_other : (x : Var) → with_store (lookup st) e x ≡ e x → (d : Dec (x ≡ logic n u))
          → setting_at v (with_store (lookup st) e) d ≡ setting_at v e d
      at_other x same (yes q) = refl
      at_other x same (no m) = same

      at : (x : Var) → setting (logic n u) v (with_store (lookup st) e) x
          ≡ with_store (lookup st) (setting (logic n u) v e) x
      at (prog x s) = at_program x s (var_eq (prog x s) (logic n u))
      at (logic x s) = at_other (logic x s) refl (var_eq (logic x s) (logic n u))
      at (bound i s) = at_other (bound i s) refl (var_eq (bound i s) (logic n u))

  -- where the data meets a formula with the variable so
  at-logic : (d : DataSort) (c : Trees) (p q : Formula) (g : Trees) → At d c p e st g → Fits u v
      → (b : Trees) → Shaped (shape d) b → SameAt grove g (fill c b)
      → Meets q (setting (logic n u) v (with_store (lookup st) e)) (shape d) b
      → At d c q (setting (logic n u) v e) st g
  at-logic d c p q g a fits b wb same m = record {
    proper = subst Proper setting-joint (setting-proper n u v
        (with_store (lookup st) e) fits a.proper);
    whole = a.whole;
    stands = λ k. k (b, wb, (same, subst (λ z. Meets q z (shape d) b) setting-joint m));
  }

-- and back, where the data meets the other formula with the variable as it was
back-logic : (n : List ℕ) (u : Sort) (v : Thing) (e : Environment) (st st' : Store) (d : DataSort)
    (c : Trees) (p q : Formula) (g : Trees) → Proper (with_store (lookup st) e)
    → ((b : Trees) → Meets p (setting (logic n u) v (with_store (lookup st') e)) (shape d) b
    → Meets q (with_store (lookup st') e) (shape d) b)
    → At d c p (setting (logic n u) v e) st' g → At d c q e st' g
back-logic n u v e st st' d c p q g pr f a = record {
  proper = record { programs = a.proper.programs; logics = pr.logics };
  whole = a.whole;
  stands = λ k. a.stands (λ x. k (
    x.0,
    x.1,
    (
      x.2.0,
      f x.0 (subst (λ z. Meets p z (shape d) x.0) (sym (setting-joint n u v st' e)) x.2.1),
    ),
  ));
}

module _ (ps : Procedures) (bodies : BodiesSorted ps) (m : ℕ) (n : List ℕ) (u : Sort)
    (p q : Formula) (cmd : Command) (d : DataSort) (s : Sound ps bodies m p cmd q d)
  where
    abbrev x : Var
    x = logic n u

    -- ELIMINATE
    pub eliminate-sound : Sound ps bodies m (exists (logic n u) p) cmd (exists (logic n u) q) d
    eliminate-sound e c wc st g a =
        Well-stable ps m d c (exists x q) e (run cmd ∷ []) st g (λ k. a.stands (λ y. y.2.1 (λ z.
        k (with_value y.0 y.1 y.2.0 z.0 z.1 z.2))))
      where
        with_value : (b : Trees) → Shaped (shape d) b → SameAt grove g (fill c b) → (v : Thing)
            → Fits u v → Meets (formula_with (closing x) p) (choosing v (with_store (lookup st) e))
            (shape d) b
            → Well ps ⊥ m (At d c (exists x q) e) (run cmd ∷ []) st g
        with_value b wb same v fits h =
            Well-map ps ⊥ m (At d c q (setting x v e)) (At d c (exists x q) e) (run cmd ∷ []) st g
            (λ st' g'. back-logic n u v e st st' d c q (exists x q) g' a.proper (λ r mr k. k (
              v,
              fits,
              with-meets-back q (closing x) (choosing v (with_store (lookup st') e)) (shape d) r
                  (subst (λ z. Meets q z (shape d) r)
                  (sym (closing-env x v (with_store (lookup st') e)))
                  mr),
            )))
            (s (setting x v e) c wc st g
            (at-logic n u v st e d c (exists x p) p g a fits b wb same
            (subst (λ z. Meets p z (shape d) b) (closing-env x v (with_store (lookup st) e))
            (meets-with p (closing x) (choosing v (with_store (lookup st) e)) (shape d) b h))))

    -- INSTANCE
    module _ (t : Term) (fits : (e : Environment) → Proper e → Fits u (meaning_of e t))
        (free : (y : ProgVar) → Modifies cmd y → InTerm (as_var y) t → ⊥)
      where
        abbrev p' : Formula
        p' = formula_with (replacing (logic n u) t) p

        abbrev q' : Formula
        q' = formula_with (replacing (logic n u) t) q

        pub instance-sound : Sound ps bodies m p' cmd q' d
        instance-sound e c wc st g a =
            Well-stable ps m d c q' e (run cmd ∷ []) st g (λ k. a.stands (λ y.
            k (with_data y.0 y.1 y.2.0 y.2.1)))
          where
            -- the term stands for the same at the end
            as-before : (st' : Store) → Kept cmd st st'
                → setting x (meaning_of (with_store (lookup st) e) t) (with_store (lookup st') e)
                ≡ after (replacing x t) (with_store (lookup st') e)
            as-before st' kept =
                ap (λ z. setting x z (with_store (lookup st') e))
                (meaning-agrees t (with_store (lookup st) e) (with_store (lookup st') e)
                (kept-agrees cmd st st' e kept (λ y. InTerm y t) free))
                ∙ sym (replacing-env x t (with_store (lookup st') e))

            ends-so : (st' : Store) (g' : Trees)
                → At d c q (setting x (meaning_of (with_store (lookup st) e) t) e) st' g'
                × Kept cmd st st'
                → At d c q' e st' g'
            ends-so st' g' y =
                back-logic n u (meaning_of (with_store (lookup st) e) t) e st st' d c q q' g'
                a.proper
                (λ r mr. with-meets-back q (replacing x t) (with_store (lookup st') e) (shape d) r
                (subst (λ z. Meets q z (shape d) r) (as-before st' y.1) mr)) y.0

            with_data : (b : Trees) → Shaped (shape d) b → SameAt grove g (fill c b)
                → Meets p' (with_store (lookup st) e) (shape d) b
                → Well ps ⊥ m (At d c q' e) (run cmd ∷ []) st g
            with_data b wb same h =
                Well-map ps ⊥ m
                (λ st' g'. At d c q (setting x (meaning_of (with_store (lookup st) e) t) e) st' g'
                × Kept cmd st st')
                (At d c q' e) (run cmd ∷ []) st g ends-so
                (with-kept ps m (At d c q (setting x (meaning_of (with_store (lookup st) e) t) e))
                cmd st
                g
                (s (setting x (meaning_of (with_store (lookup st) e) t) e) c wc st g
                (at-logic n u (meaning_of (with_store (lookup st) e) t) st e d c p' p g a
                (fits (with_store (lookup st) e) a.proper) b wb same
                (subst (λ z. Meets p z (shape d) b) (replacing-env x t (with_store (lookup st) e))
                (meets-with p (replacing x t) (with_store (lookup st) e) (shape d) b h)))))
