-- A triple that is proved with "some data" read classically holds with it read plainly.
use Rattle.std.proofs.Common.{◌≡◌, true, refl, subst}
use Rattle.model_shapes.specs.Trees.{Trees, fill}
use Rattle.model_shapes.specs.Sorts.{shape, context, DataSort, grove}
use Rattle.model_shapes.specs.Shapes.{Shaped}
use Rattle.model_formulas.specs.Formulas.{Formula}
use Rattle.model_formulas.specs.Satisfaction.{Environment}
use Rattle.model_shapes.proofs.Shapes.{same-Shaped}
use Rattle.model_formulas.proofs.Plainly.{plain_end}
use Rattle.model_terms.specs.Stores.{Store, lookup}
use Rattle.model_commands.specs.Commands.{Command}
use Rattle.model_commands.specs.Theories.{Procedures}
use Rattle.model_commands.specs.SortTests.{is_sorted, BodiesSorted}
use Rattle.model_machine.specs.Fitting.{Fine, FitsConfig}
use Rattle.model_machine.specs.Machine.{beginning, RunOutcome, running, ended, fault, picked_badly, runs}
use Rattle.model_machine.specs.LocalTriples.{EndsWith, GoesWell, HoldsLocally}
use Rattle.model_machine.specs.ClassicalTriples.{Ends, Stands, TripleFor}
use Rattle.model_machine.proofs.Runs.{Ends-map}
use Rattle.model_machine.proofs.Fine.{runs-fine}
use Rattle.model_commands.proofs.StoreLaws.{proper-store}

-- the data that stands in the context at the end
pub plainly : (d : DataSort) (c : Trees) (q : Formula) (e : Environment) (st : Store) (g : Trees)
    → Shaped (context d grove) c → Shaped (shape grove) g → Stands d c q e st g
    → EndsWith d c q e st g
plainly d c q e st g wc w s =
    plain_end d c q e (lookup st) g wc (λ n. s (λ y. n (
      y.0,
      y.1,
      (same-Shaped (shape grove) g (fill c y.0) y.2.0 w, y.2.0, y.2.1),
    )))

-- and back
pub standing : (d : DataSort) (c : Trees) (q : Formula) (e : Environment) (st : Store) (g : Trees)
    → EndsWith d c q e st g → Stands d c q e st g
standing d c q e st g x = λ n. n (x.0, x.1, (x.3, x.4))

-- the two ways to say that a run goes well
goes-well : (J : Store → Trees → Type 0) (o : RunOutcome) → Ends ⊥ J o → GoesWell J o
goes-well J o h = record {
  faultless = λ k e. subst (Ends ⊥ J) e h;
  each_end = λ st g e. subst (Ends ⊥ J) e h;
}

well-ends : (J : Store → Trees → Type 0) (o : RunOutcome) → GoesWell J o → Ends ⊥ J o
well-ends J running w = tt
well-ends J picked_badly w = tt
well-ends J (fault k) w = w.faultless k refl
well-ends J (ended st g) w = w.each_end st g refl

module _ (th : Procedures) (p : Formula) (c : Command) (q : Formula) (d : DataSort) where
  -- a classical triple over all runs is a local one
  pub classical-plain : BodiesSorted th → is_sorted th c ≡ true
      → TripleFor th (λ n. Unit) p c q d
      → HoldsLocally th p c q d
  classical-plain bodies sorted triple e st pr r wr mr around wa wf picks =
      let begun = beginning c st (fill around r) in
      let fits : FitsConfig th begun = record {
        pieces = (sorted, tt);
        fine = record { proper = proper-store st e pr; whole = wf };
      } in
      goes-well (EndsWith d around q e) (runs th picks begun)
      (at_end (runs th picks begun) (triple e st pr r wr mr around wa wf picks tt)
      (runs-fine th bodies picks begun fits))
    where
      at_end : (o : RunOutcome) → Ends ⊥ (Stands d around q e) o → Ends Unit Fine o
          → Ends ⊥ (EndsWith d around q e) o
      at_end running s f = tt
      at_end picked_badly s f = tt
      at_end (fault k) s f = s
      at_end (ended st' g) s f = plainly d around q e st' g wa f.whole s

  -- and the other way round
  pub plain-classical : HoldsLocally th p c q d → TripleFor th (λ n. Unit) p c q d
  plain-classical triple e st pr r wr mr around wa wf picks long =
      let came_to = runs th picks (beginning c st (fill around r)) in
      Ends-map ⊥ (EndsWith d around q e) (Stands d around q e) came_to (standing d around q e)
      (well-ends (EndsWith d around q e) came_to (triple e st pr r wr mr around wa wf picks))
