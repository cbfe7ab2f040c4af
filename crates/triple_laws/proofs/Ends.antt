-- The form of a triple in which the rules are proved: from any grove in which the context stands
-- round data that meets the formula, by the number of steps.
use Rattle.std.proofs.Common.{◌≡◌, true, ℕ, ◌≤◌, [], ◌∷◌, refl, subst}
use mathlib.Core.HLevel.{Stable}
use Rattle.model_shapes.specs.Sorts.{shape, context, DataSort, grove}
use Rattle.model_shapes.specs.Trees.{Trees, fill}
use Rattle.model_shapes.specs.Shapes.{SameAt, Shaped}
use Rattle.model_shapes.proofs.Shapes.{SameAt-sym, SameAt-trans, SameAt-eq, same-Shaped}
use Rattle.model_formulas.specs.Formulas.{Formula}
use Rattle.model_formulas.specs.Satisfaction.{Environment, Meets, Proper, with_store}
use Rattle.model_formulas.proofs.Stable.{stable-not, stable-Shaped, stable-Proper}
use Rattle.model_terms.specs.Stores.{Store, lookup}
use Rattle.model_commands.specs.Commands.{Command}
use Rattle.model_commands.specs.Theories.{Procedures}
use Rattle.model_commands.specs.SortTests.{is_sorted, BodiesSorted}
use Rattle.model_machine.specs.Fitting.{Fine, FitsConfig}
use Rattle.model_machine.specs.Machine.{run, beginning, RunOutcome, running, ended, fault, picked_badly, runs}
use Rattle.model_machine.specs.SameMoves.{SameOutcome}
use Rattle.model_machine.specs.ClassicalTriples.{Ends, Stands, TripleFor}
use Rattle.model_commands.proofs.StoreLaws.{proper-store, other-store}
use Rattle.model_machine.proofs.Runs.{Well, Ends-map}
use Rattle.model_machine.proofs.Fine.{runs-fine}
use Rattle.model_machine.proofs.SameRuns.{same-config-runs}

-- at most so many steps
abbrev pub UpTo : ℕ → ℕ → Type 0
UpTo n m = m ≤ n

-- at a store and a grove: some data that meets the formula stands in the context
pub record At (d : DataSort) (around : Trees) (p : Formula) (e : Environment) (st : Store)
    (g : Trees) : Type 0 where
  pub proper : Proper (with_store (lookup st) e)
  pub whole : Shaped (shape grove) g
  pub stands : Stands d around p e st g

stable-At : (d : DataSort) (c : Trees) (p : Formula) (e : Environment) (st : Store) (g : Trees)
    → Stable (At d c p e st g)
stable-At d c p e st g h = record {
  proper = stable-Proper (with_store (lookup st) e) (λ n. h (λ a. n a.proper));
  whole = stable-Shaped (λ n. h (λ a. n a.whole));
  stands = stable-not (λ n. h (λ a. n a.stands));
}

stable-Ends : (J : Store → Trees → Type 0) → ((st : Store) (g : Trees) → Stable (J st g))
    → (o : RunOutcome) → Stable (Ends ⊥ J o)
stable-Ends J s running = λ h. tt
stable-Ends J s picked_badly = λ h. tt
stable-Ends J s (fault f) = λ h. h (λ b. b)
stable-Ends J s (ended st g) = s st g

-- on the same grove
At-same : (d : DataSort) (c : Trees) (p : Formula) (e : Environment) (st : Store) (g g' : Trees)
    → SameAt grove g g' → At d c p e st g → At d c p e st g'
At-same d c p e st g g' same a = record {
  proper = a.proper;
  whole = same-Shaped (shape grove) g g' same a.whole;
  stands = λ n. a.stands (λ x. n (
    x.0,
    x.1,
    (SameAt-trans grove g' g (fill c x.0) (SameAt-sym grove g g' same) x.2.0, x.2.1),
  ));
}

-- another formula, where it is met too, and another store
pub At-map : (d : DataSort) (c : Trees) (p q : Formula) (e : Environment) (st st' : Store)
    (g : Trees) → Proper (with_store (lookup st') e)
    → ((b : Trees) → Shaped (shape d) b → Meets p (with_store (lookup st) e) (shape d) b
    → Meets q (with_store (lookup st') e) (shape d) b) → At d c p e st g → At d c q e st' g
At-map d c p q e st st' g pr f a = record {
  proper = pr;
  whole = a.whole;
  stands = λ n. a.stands (λ x. n (x.0, x.1, (x.2.0, f x.0 x.1 x.2.1)));
}

-- ends on groves that are the same
Ends-same : (J : Store → Trees → Type 0)
    → ((st : Store) (g g' : Trees) → SameAt grove g g' → J st g → J st g')
    → (o o' : RunOutcome) → SameOutcome o o' → Ends ⊥ J o → Ends ⊥ J o'
Ends-same J f running running s m = tt
Ends-same J f picked_badly picked_badly s m = tt
Ends-same J f (fault x) (fault y) s m = m
Ends-same J f (ended st g) (ended st' g') s m = subst (λ z. J z g') s.0 (f st g g' s.1 m)
Ends-same J f o o' s m = absurd s

both-ends : (J K : Store → Trees → Type 0) (o : RunOutcome) → Ends ⊥ J o → Ends Unit K o
    → Ends ⊥ (λ st g. J st g × K st g) o
both-ends J K running a b = tt
both-ends J K picked_badly a b = tt
both-ends J K (fault f) a b = a
both-ends J K (ended st g) a b = (a, b)

module _ (ps : Procedures) (bodies : BodiesSorted ps) where
  -- the triple, over runs of at most n steps
  abbrev pub Sound : ℕ → Formula → Command → Formula → DataSort → Type 0
  Sound n p c q d = (e : Environment) (around : Trees) → Shaped (context d grove) around
      → (st : Store) (g : Trees) → At d around p e st g
      → Well ps ⊥ n (At d around q e) (run c ∷ []) st g

  -- from the triple read classically
  pub to_sound : (n : ℕ) (p : Formula) (c : Command) (q : Formula) (d : DataSort)
      → is_sorted ps c ≡ true
      → TripleFor ps (UpTo n) p c q d → Sound n p c q d
  to_sound n p c q d so t e around wc st g a picks l =
      stable-Ends (At d around q e) (stable-At d around q e) (runs ps picks (beginning c st g))
      (λ k. a.stands (λ x. k (from x.0 x.1 x.2.0 x.2.1)))
    where
      from : (b : Trees) → Shaped (shape d) b → SameAt grove g (fill around b)
          → Meets p (with_store (lookup st) e) (shape d) b
          → Ends ⊥ (At d around q e) (runs ps picks (beginning c st g))
      from b wb same m =
          let filled = fill around b in
          let whole : Shaped (shape grove) filled =
          same-Shaped (shape grove) g filled same a.whole in
          let fits : FitsConfig ps (beginning c st filled) = record {
            pieces = (so, tt);
            fine = record { proper = proper-store st e a.proper; whole = whole };
          } in
          let came_to = runs ps picks (beginning c st filled) in
          let there : Ends ⊥ (λ st' g'. Stands d around q e st' g' × Fine st' g') came_to =
          both-ends (Stands d around q e) Fine came_to
          (t e st a.proper b wb m around wc whole picks l)
          (runs-fine ps bodies picks (beginning c st filled) fits) in
          let here : Ends ⊥ (At d around q e) came_to =
          Ends-map ⊥ (λ st' g'. Stands d around q e st' g' × Fine st' g') (At d around q e) came_to
          (λ st' g' y. record {
            proper = other-store st st' e a.proper y.1.proper;
            whole = y.1.whole;
            stands = y.0;
          }) there in
          Ends-same (At d around q e) (λ st' g1 g2. At-same d around q e st' g1 g2) came_to
          (runs ps picks (beginning c st g))
          (same-config-runs ps bodies picks (beginning c st filled) g fits
          (SameAt-sym grove g filled same)) here

  -- and back
  pub from_sound : (n : ℕ) (p : Formula) (c : Command) (q : Formula) (d : DataSort)
      → Sound n p c q d → TripleFor ps (UpTo n) p c q d
  from_sound n p c q d s e st pr r wr m around wc whole picks l =
      let filled = fill around r in
      Ends-map ⊥ (At d around q e) (Stands d around q e) (runs ps picks (beginning c st filled))
      (λ st' g' a. a.stands)
      (s e around wc st filled (record {
        proper = pr;
        whole = whole;
        stands = λ k. k (r, wr, (SameAt-eq grove filled filled refl, m));
      }) picks l)
