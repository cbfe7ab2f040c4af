-- Runs, step by step, on groves that are the same up to the order of roots.
use Rattle.std.proofs.Common.{◌≡◌, ℕ, zero, suc, ◌+◌, ◌-◌, ◌<◌, ◌≤◌, Bool, true, false, cond, List, [], ◌∷◌, ◌++◌, Some, None, refl, sym, ap, ◌∙◌, subst, arith, zero-add}
use Rattle.model_shapes.specs.Sorts.{shape, grove}
use Rattle.model_shapes.specs.Trees.{Trees}
use Rattle.model_shapes.specs.Shapes.{SameAt, Shaped}
use Rattle.model_shapes.proofs.Shapes.{SameAt-sym, SameAt-trans, same-Shaped}
use Rattle.model_terms.specs.Stores.{ProgVar, Store, ProperStore}
use Rattle.model_commands.specs.Theories.{Procedures}
use Rattle.model_commands.specs.SortTests.{BodiesSorted}
use Rattle.model_groves.specs.Picks.{Pick, next_pick}
use Rattle.model_limits.specs.Limits.{LimitKind, standard_limits}
use Rattle.model_machine.specs.Machine.{FaultKind, Piece, Move, becomes, faults, bad_pick, move, Config, configuration, is_done, StepOut, next, done, at_fault, at_bad_pick, stepped, step}
use Rattle.model_machine.specs.Outcomes.{Outcome, spends, passes_limit, has_fault, ends_at, first_command, within, on_step, outcome}
use Rattle.model_machine.specs.SameMoves.{SameMove}
use Rattle.model_machine.specs.Fitting.{FitPieces, FitsConfig}
use Rattle.model_machine.proofs.Fine.{step-fits}
use Rattle.model_machine.proofs.SameRuns.{same-move}
use Rattle.dom_terms.specs.declared.limits.LimitKind as limits
use Rattle.dom_terms.specs.Limits.{limit_kind_of}
use Rattle.heap_runner.specs.Answers.{Leaves, Answers}
use Rattle.heap_runner.specs.Turns.{limit_here}
use Rattle.heap_runner.specs.Steps.{SameConfig, Leads}
use Rattle.heap_runner.specs.declared.outcomes.HeapOutcome.TheVariants as o
use Rattle.heap_runner.specs.Reached.{Reached}
use Rattle.heap_runner.proofs.SameGroves.{same-pick, same-limit}

-- the same answers of a step, up to the order of roots
abbrev SameOut : StepOut → StepOut → Type 0
SameOut (next config) (next other) = SameConfig config other
SameOut (at_fault kind) (at_fault other) = kind ≡ other
SameOut done done = Unit
SameOut at_bad_pick at_bad_pick = Unit
SameOut out other = ⊥

same-stepped : (rest : List Piece) (m m' : Move) → SameMove m m'
    → SameOut (stepped rest m) (stepped rest m')
same-stepped rest (becomes xs st g) (becomes xs' st' g') same =
    (ap (λ z. z ++ rest) same.0, same.1, same.2)
same-stepped rest (faults kind) (faults kind') same = same
same-stepped rest bad_pick bad_pick same = tt
same-stepped rest m m' same = absurd same

-- where a step leads that is the same as one that leads there
leads_from : (out other : StepOut) (after : Config) → SameOut out other → Leads other after
    → (config : Config) × (out ≡ next config) × SameConfig config after
leads_from (next config) (next other) after same leads = (
  config,
  refl,
  (
    same.0 ∙ leads.0,
    same.1 ∙ leads.1,
    SameAt-trans grove config.grove other.grove after.grove same.2 leads.2,
  ),
)
leads_from out done after same leads = absurd leads
leads_from out (at_fault kind) after same leads = absurd leads
leads_from out at_bad_pick after same leads = absurd leads
leads_from done (next other) after same leads = absurd same
leads_from (at_fault kind) (next other) after same leads = absurd same
leads_from at_bad_pick (next other) after same leads = absurd same

faults_from : (out other : StepOut) (kind : FaultKind) → SameOut out other
    → other ≡ at_fault kind → out ≡ at_fault kind
faults_from (at_fault k) (at_fault k') kind same is = ap at_fault same ∙ is
faults_from out (next other) kind same is = absurd cc
faults_from out done kind same is = absurd cc
faults_from out at_bad_pick kind same is = absurd cc
faults_from (next config) (at_fault k') kind same is = absurd same
faults_from done (at_fault k') kind same is = absurd same
faults_from at_bad_pick (at_fault k') kind same is = absurd same

module _ (ps : Procedures) (rs : List ProgVar) (taken : ℕ) where
  -- what comes out with no fuel, or with some
  abbrev comes : ℕ → Config → Outcome
  comes fuel config = outcome standard_limits ps rs fuel taken config

  goes_on : (fuel : ℕ) (c d : Config) → limit_here c ≡ None
      → step ps c (next_pick c.grove) ≡ next d
      → comes (suc fuel) c ≡ outcome standard_limits ps rs fuel (suc taken) d
  goes_on fuel c d limit is = by_pending c.pending limit is
    where
      by_pending : (k : List Piece) → limit_here (configuration k c.store c.grove) ≡ None
          → step ps (configuration k c.store c.grove) (next_pick c.grove) ≡ next d
          → comes (suc fuel) (configuration k c.store c.grove)
          ≡ outcome standard_limits ps rs fuel (suc taken) d
      by_pending [] l e = absurd cc
      by_pending (x ∷ k) l e = λ i.
          within (l i) (on_step (outcome standard_limits ps rs fuel (suc taken)) rs taken
          (configuration (x ∷ k) c.store c.grove) (e i))

  comes_to_fault : (fuel : ℕ) (c : Config) (kind : FaultKind) → limit_here c ≡ None
      → step ps c (next_pick c.grove) ≡ at_fault kind
      → comes (suc fuel) c ≡ has_fault kind taken (first_command c.pending)
  comes_to_fault fuel c kind limit is = by_pending c.pending limit is
    where
      by_pending : (k : List Piece) → limit_here (configuration k c.store c.grove) ≡ None
          → step ps (configuration k c.store c.grove) (next_pick c.grove) ≡ at_fault kind
          → comes (suc fuel) (configuration k c.store c.grove)
          ≡ has_fault kind taken (first_command k)
      by_pending [] l e = absurd cc
      by_pending (x ∷ k) l e = λ i.
          within (l i) (on_step (outcome standard_limits ps rs fuel (suc taken)) rs taken
          (configuration (x ∷ k) c.store c.grove) (e i))

  comes_to_limit : (fuel : ℕ) (c : Config) (kind : LimitKind) → limit_here c ≡ Some kind
      → comes (suc fuel) c ≡ passes_limit kind
  comes_to_limit fuel c kind limit = by_pending c.pending limit
    where
      by_pending : (k : List Piece) → limit_here (configuration k c.store c.grove) ≡ Some kind
          → comes (suc fuel) (configuration k c.store c.grove) ≡ passes_limit kind
      by_pending [] l = absurd cc
      by_pending (x ∷ k) l = λ i.
          within (l i) (on_step (outcome standard_limits ps rs fuel (suc taken)) rs taken
          (configuration (x ∷ k) c.store c.grove)
          (step ps (configuration (x ∷ k) c.store c.grove) (next_pick c.grove)))

  not_done : (k : List Piece) (m : Move) → stepped k m ≡ done → ⊥
  not_done k (becomes xs st g) e = cc
  not_done k (faults kind) e = cc
  not_done k bad_pick e = cc

  comes_to_end : (fuel : ℕ) (k : List Piece) (store : Store) (a b : Trees) (p : Pick)
      → step ps (configuration k store b) p ≡ done
      → comes fuel (configuration k store a) ≡ ends_at rs taken (configuration k store a)
  comes_to_end zero [] store a b p e = refl
  comes_to_end (suc fuel) [] store a b p e = refl
  comes_to_end fuel (x ∷ k) store a b p e = absurd (not_done k (move ps p x store b) e)

  either_leaves : (b : Bool) (c : Config) (trees : Trees) → SameAt grove trees c.grove
      → Leaves (cond b (ends_at rs taken c) (spends taken c)) trees
  either_leaves true c trees same = same
  either_leaves false c trees same = same

  -- with no fuel the grove is left
  no_fuel : (c : Config) (trees : Trees) → SameAt grove trees c.grove → Leaves (comes 0 c) trees
  no_fuel c trees same = either_leaves (is_done c) c trees same

module _ (run : ℕ → Outcome) (ps : Procedures) (rs : List ProgVar) (steps : ℕ) (here : Config)
    (r : Reached run ps rs steps here) where
  abbrev there : Config
  there = configuration here.pending here.store r.roots

  same_out : SameOut (step ps there (next_pick there.grove))
      (step ps here (next_pick here.grove))
  same_out =
      subst (λ p. SameOut (step ps there (next_pick there.grove)) (step ps here p))
      (same-pick r.roots here.grove r.same) (by_pending here.pending)
    where
      by_pending : (k : List Piece)
          → SameOut (step ps (configuration k here.store r.roots) (next_pick r.roots))
          (step ps (configuration k here.store here.grove) (next_pick r.roots))
      by_pending [] = tt
      by_pending (x ∷ k) =
          same-stepped k (move ps (next_pick r.roots) x here.store r.roots)
          (move ps (next_pick r.roots) x here.store here.grove)
          (same-move r.roots here.grove r.same r.fits.fine.whole.well_formed ps
          (next_pick r.roots) x here.store)

  same_limit : limit_here there ≡ limit_here here
  same_limit = same-limit r.roots here.grove r.same here.pending here.store

  -- with more fuel than steps
  with_fuel : (fuel left : ℕ) → fuel ≡ steps + left
      → run fuel ≡ outcome standard_limits ps rs left steps there
  with_fuel fuel left e = ap run e ∙ r.more left

  -- the grove is a well-formed one
  pub reached_shaped : Shaped (shape grove) here.grove
  reached_shaped = same-Shaped (shape grove) r.roots here.grove r.same r.fits.fine.whole

  -- and it is what is left with as much fuel as steps were taken
  pub reached_leaves : Leaves (run steps) here.grove
  reached_leaves =
      subst (λ z. Leaves z here.grove) (sym (with_fuel steps 0 (omega arith)))
      (no_fuel ps rs steps there here.grove (SameAt-sym grove r.roots here.grove r.same))

  -- the next step
  pub reached_next : BodiesSorted ps → (after : Config) → limit_here here ≡ None
      → Leads (step ps here (next_pick here.grove)) after → Reached run ps rs (steps + 1) after
  reached_next bodies after limit leads =
      let l = leads_from (step ps there (next_pick there.grove))
      (step ps here (next_pick here.grove)) after same_out leads in
      let is_left : l.0 ≡ configuration after.pending after.store l.0.grove =
      λ i. configuration (l.2.0 i) (l.2.1 i) l.0.grove in
      record {
        roots = l.0.grove;
        same = l.2.2;
        fits = subst (FitsConfig ps) is_left
            (step-fits ps bodies (next_pick there.grove) there l.0 r.fits l.1);
        more = λ fuel.
            with_fuel (steps + 1 + fuel) (suc fuel) (omega arith)
            ∙ goes_on ps rs steps fuel there l.0 (same_limit ∙ limit) l.1
            ∙ (λ i. outcome standard_limits ps rs fuel (one_more i) (is_left i));
      }
    where
      one_more : suc steps ≡ steps + 1
      one_more = omega arith

  -- the end
  pub reached_end : (fuel : ℕ) → steps ≤ fuel → step ps here (next_pick here.grove) ≡ done
      → run fuel ≡ ends_at rs steps there
  reached_end fuel le is =
      with_fuel fuel (fuel - steps) (omega arith)
      ∙ comes_to_end ps rs steps (fuel - steps) here.pending here.store r.roots here.grove
      (next_pick here.grove) is

  pub reached_fault : (fuel : ℕ) (kind : FaultKind) → steps < fuel → limit_here here ≡ None
      → step ps here (next_pick here.grove) ≡ at_fault kind
      → run fuel ≡ has_fault kind steps (first_command here.pending)
  reached_fault fuel kind le limit is =
      with_fuel fuel (suc (fuel - steps - 1)) (omega arith)
      ∙ comes_to_fault ps rs steps (fuel - steps - 1) there kind (same_limit ∙ limit)
      (faults_from (step ps there (next_pick there.grove)) (step ps here (next_pick here.grove))
      kind same_out is)

  pub reached_limit : (fuel : ℕ) (kind : LimitKind) → steps < fuel → limit_here here ≡ Some kind
      → run fuel ≡ passes_limit kind
  reached_limit fuel kind le limit =
      with_fuel fuel (suc (fuel - steps - 1)) (omega arith)
      ∙ comes_to_limit ps rs steps (fuel - steps - 1) there kind (same_limit ∙ limit)

  -- a step that isn't taken
  pub reached_refusal : (kind : limits.LimitKind) (fuel : ℕ) (trees : Trees) → steps < fuel
      → limit_here here ≡ Some (limit_kind_of kind) → trees ≡ here.grove
      → Answers run fuel (o.Limit kind) trees
  reached_refusal kind fuel trees le limit same = (
    reached_limit fuel (limit_kind_of kind) le limit,
    steps,
    le,
    reached_limit (suc steps) (limit_kind_of kind) (omega arith) limit,
    subst (Leaves (run steps)) (sym same) reached_leaves,
  )

  pub reached_want : (fuel : ℕ) (trees : Trees) → steps ≤ fuel → trees ≡ here.grove
      → Answers run fuel o.OutOfMemory trees
  reached_want fuel trees le same =
      (steps, le, subst (Leaves (run steps)) (sym same) reached_leaves)

  -- with all the fuel spent
  pub reached_spent : (here.pending ≡ [] → ⊥) → run steps ≡ spends steps there
  reached_spent some = with_fuel steps 0 (omega arith) ∙ by_pending here.pending some
    where
      by_pending : (k : List Piece) → (k ≡ [] → ⊥)
          → outcome standard_limits ps rs 0 steps (configuration k here.store r.roots)
          ≡ spends steps (configuration k here.store r.roots)
      by_pending [] n = absurd (n refl)
      by_pending (x ∷ k) n = refl

  pub reached_nothing : (fuel : ℕ) → steps ≤ fuel → here.pending ≡ []
      → run fuel ≡ ends_at rs steps there
  reached_nothing fuel le empty =
      reached_end fuel le (ap (λ z. step ps (configuration z here.store here.grove)
      (next_pick here.grove)) empty)

-- where a run begins, in any order of the roots
pub reached_start : (ps : Procedures) (rs : List ProgVar) (here : Config) (roots : Trees)
    → SameAt grove roots here.grove → FitPieces ps here.pending → ProperStore here.store
    → Shaped (shape grove) here.grove
    → Reached (λ within. outcome standard_limits ps rs within 0
    (configuration here.pending here.store roots)) ps rs 0 here
reached_start ps rs here roots same pieces proper whole = record {
  roots = roots;
  same = same;
  fits = record {
    pieces = pieces;
    fine = record {
      proper = proper;
      whole = same-Shaped (shape grove) here.grove roots (SameAt-sym grove roots here.grove same)
          whole;
    };
  };
  more = λ fuel.
      ap (λ n. outcome standard_limits ps rs n 0 (configuration here.pending here.store roots))
      (zero-add fuel);
}
