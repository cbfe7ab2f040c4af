-- The rules consequence, disjunction, absurd and frame, for runs of at most n steps.
use Rattle.std.proofs.Common.{ℕ, [], ◌∷◌, refl, sym, subst, ⊎_elim}
use Rattle.model_shapes.specs.Shapes.{Shaped, SameAt}
use Rattle.model_shapes.specs.Sorts.{DataSort, shape, context, grove}
use Rattle.model_shapes.specs.Trees.{Trees, fill}
use Rattle.model_shapes.proofs.Basics.{fill-fill}
use Rattle.model_shapes.proofs.Filling.{fill-right, put-Shaped, inner-WellFormed, compose-Shaped, outer-WellFormed}
use Rattle.model_shapes.proofs.Shapes.{SameAt-trans, SameAt-eq, same-Shaped}
use Rattle.model_formulas.specs.Formulas.{Formula, application, falsity, disjunction}
use Rattle.model_formulas.specs.Satisfaction.{Environment, Meets, with_store, Entails}
use Rattle.model_formulas.specs.Substitution.{FreeIn}
use Rattle.model_formulas.proofs.Substitutes.{meets-agrees}
use Rattle.model_commands.specs.Commands.{Command, Modifies}
use Rattle.model_commands.specs.SortTests.{BodiesSorted}
use Rattle.model_machine.specs.Machine.{run}
use Rattle.model_terms.specs.Stores.{Store, lookup, ProgVar, as_var}
use Rattle.model_commands.specs.Theories.{Procedures}
use Rattle.model_machine.proofs.Runs.{Well, Well-map}
use Rattle.triple_laws.proofs.Ends.{At, Sound, At-map}
use Rattle.triple_laws.proofs.Keeping.{Well-stable, at-data, Kept, with-kept, kept-agrees}

module _ (ps : Procedures) (bodies : BodiesSorted ps) (n : ℕ) where
  pub consequence-sound : (p p' q q' : Formula) (cmd : Command) (d : DataSort)
      → Entails p p' (shape d) → Entails q' q (shape d) → Sound ps bodies n p' cmd q' d
      → Sound ps bodies n p cmd q d
  consequence-sound p p' q q' cmd d x y s e c wc st g a =
      Well-map ps ⊥ n (At d c q' e) (At d c q e) (run cmd ∷ []) st g
      (λ st' g' a'.
      At-map d c q' q e st' st' g' a'.proper (λ r wr m. y
      (with_store (lookup st') e) a'.proper r wr m)
      a')
      (s e c wc st g
      (At-map d c p p' e st st g a.proper (λ r wr m. x (with_store (lookup st) e) a.proper r wr m)
      a))

  pub disjunction-sound : (p p' q : Formula) (cmd : Command) (d : DataSort)
      → Sound ps bodies n p cmd q d → Sound ps bodies n p' cmd q d
      → Sound ps bodies n (disjunction p p') cmd q d
  disjunction-sound p p' q cmd d l r e c wc st g a =
      Well-stable ps n d c q e (run cmd ∷ []) st g (λ k. a.stands (λ x. x.2.1 (λ m. ⊎_elim
      (λ y. k (l e c wc st g (at-data d c _ p e st g a x.0 x.1 x.2.0 y)))
      (λ y. k (r e c wc st g (at-data d c _ p' e st g a x.0 x.1 x.2.0 y))) m)))

  pub absurd-sound : (q : Formula) (cmd : Command) (d : DataSort)
      → Sound ps bodies n falsity cmd q d
  absurd-sound q cmd d e c wc st g a =
      Well-stable ps n d c q e (run cmd ∷ []) st g (λ k. a.stands (λ x. x.2.1))

  -- FRAME: the context of K stands in the other context, and is kept
  module _ (k p q : Formula) (cmd : Command) (h d : DataSort)
      (free : (x : ProgVar) → Modifies cmd x → FreeIn (as_var x) k → ⊥) (e : Environment)
      (c : Trees)
      (wc : Shaped (context d grove) c) (st : Store) (c1 : Trees) (wc1 : Shaped (context h d) c1)
      (mk : Meets k (with_store (lookup st) e) (context h d) c1)
    where
      abbrev framed : Formula
      framed = application h k q

      -- data in the inner context is data in the outer one
      framed-at : (st' : Store) (g' : Trees) → At h (fill c c1) q e st' g' × Kept cmd st st'
          → At d c framed e st' g'
      framed-at st' g' y = record {
        proper = y.0.proper;
        whole = y.0.whole;
        stands = λ m. y.0.stands (λ z. m (
          fill c1 z.0,
          filled z.0 z.1 z.2.0,
          (
            there z.0 z.2.0,
            λ n. n (
              c1,
              wc1,
              λ i. i (
                z.0,
                z.1,
                (
                  SameAt-eq d (fill c1 z.0) (fill c1 z.0) refl,
                  meets-agrees k (with_store (lookup st) e) (with_store (lookup st') e)
                      (context h d) c1
                      (kept-agrees cmd st st' e y.1 (λ v. FreeIn v k) free) mk,
                  z.2.1,
                ),
              ),
            ),
          ),
        ));
      }
        where
          there : (b : Trees) → SameAt grove g' (fill (fill c c1) b)
              → SameAt grove g' (fill c (fill c1 b))
          there b same = subst (SameAt grove g') (fill-fill c c1 b) same

          filled : (b : Trees) → Shaped (shape h) b → SameAt grove g' (fill (fill c c1) b)
              → Shaped (shape d) (fill c1 b)
          filled b wb same =
              let whole : Shaped (shape grove) (fill c (fill c1 b)) =
              same-Shaped (shape grove) g' (fill c (fill c1 b)) (there b same) y.0.whole in
              put-Shaped h d c1 b wc1 wb (inner-WellFormed c (fill c1 b) wc.holes_fit.one
              whole.well_formed)

      with-parts : (g : Trees) → At d c (application h k p) e st g
          → (b : Trees) → SameAt grove g (fill c b) → (d1 : Trees) → Shaped (shape h) d1
          → SameAt d b (fill c1 d1) → Meets p (with_store (lookup st) e) (shape h) d1
          → Sound ps bodies n p cmd q h → Well ps ⊥ n (At d c framed e) (run cmd ∷ []) st g
      with-parts g a b sameb d1 wd1 samed mp s =
          Well-map ps ⊥ n (λ st' g'. At h (fill c c1) q e st' g' × Kept cmd st st')
          (At d c framed e)
          (run cmd ∷ []) st g framed-at
          (with-kept ps n (At h (fill c c1) q e) cmd st g (s e (fill c c1) inner-shaped st g start))
        where
          same : SameAt grove g (fill (fill c c1) d1)
          same =
              SameAt-trans grove g (fill c b) (fill (fill c c1) d1) sameb
              (subst (SameAt grove (fill c b)) (sym (fill-fill c c1 d1))
              (fill-right d grove c b (fill c1 d1) wc.holes_fit samed))

          whole : Shaped (shape grove) (fill (fill c c1) d1)
          whole = same-Shaped (shape grove) g (fill (fill c c1) d1) same a.whole

          inner-shaped : Shaped (context h grove) (fill c c1)
          inner-shaped =
              compose-Shaped h d grove c c1 wc wc1 (outer-WellFormed (fill c c1) d1
              whole.well_formed)

          start : At h (fill c c1) p e st g
          start = record {
            proper = a.proper;
            whole = a.whole;
            stands = λ m. m (d1, wd1, (same, mp));
          }

  pub frame-sound : (k p q : Formula) (cmd : Command) (h d : DataSort)
      → ((x : ProgVar) → Modifies cmd x → FreeIn (as_var x) k → ⊥)
      → Sound ps bodies n p cmd q h
      → Sound ps bodies n (application h k p) cmd (application h k q) d
  frame-sound k p q cmd h d free s e c wc st g a =
      Well-stable ps n d c (application h k q) e (run cmd ∷ []) st g
      (λ m. a.stands (λ x. x.2.1 (λ y. y.2 (λ z.
      m (with-parts k p q cmd h d free e c wc st y.0 y.1 z.2.1 g a x.0 x.2.0 z.0 z.1 z.2.0 z.2.2
      s)))))
