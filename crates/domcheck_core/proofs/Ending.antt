-- The values with which a run ends fit the variables that it gives them to.
use Rattle.std.proofs.Common.{◌≡◌, ℕ, zero, suc, List, [], ◌∷◌, ◌++◌, refl, ap, subst, map, Option, Some, None}
use Rattle.model_shapes.specs.Trees.{Trees}
use Rattle.model_terms.specs.Stores.{ProgVar, Store, ProperStore}
use Rattle.model_terms.specs.TermLimits.{or_else}
use Rattle.model_commands.specs.SortTests.{BodiesSorted}
use Rattle.model_commands.specs.Theories.{Procedures}
use Rattle.model_groves.specs.Picks.{next_pick}
use Rattle.model_limits.specs.Limits.{LimitKind, Limits}
use Rattle.model_machine.specs.Fitting.{FitsConfig, ValuesFit}
use Rattle.model_machine.specs.Machine.{Piece, Move, becomes, faults, bad_pick, move, Config, configuration, stepped}
use Rattle.model_machine.specs.Outcomes.{Outcome, ends, limit_ahead, pick_limit, within, on_step, outcome, values_in}
use Rattle.model_machine.proofs.Fine.{step-fits}
use Rattle.heap_runner.specs.Answers.{Answers}
use Rattle.heap_runner.specs.declared.outcomes.HeapOutcome.{HeapOutcome}
use Rattle.heap_runner.specs.declared.outcomes.HeapOutcome.TheVariants as h
use Rattle.domcheck_core.specs.Calls.{ResultsFit}

values-fit : (xs : List ProgVar) (store : Store) → ProperStore store
    → ValuesFit xs (values_in xs store)
values-fit [] store proper = tt
values-fit (x ∷ xs) store proper = (proper.fits x, values-fit xs store proper)

module _ (limits : Limits) (ps : Procedures) (bodies : BodiesSorted ps) (rs : List ProgVar) where
  -- the values of an end fit
  abbrev pub EndFits : Outcome → Type 0
  EndFits (ends steps values left) = ValuesFit rs values
  EndFits other = Unit

  module _ (fuel taken : ℕ) (x : Piece) (k : List Piece) (st : Store) (g : Trees)
      (fits : FitsConfig ps (configuration (x ∷ k) st g)) where
    by_move : (l : Option LimitKind) (m : Move) → move ps (next_pick g) x st g ≡ m
        → ((d : Config) → FitsConfig ps d → EndFits (outcome limits ps rs fuel (suc taken) d))
        → EndFits (within l (on_step (outcome limits ps rs fuel (suc taken)) rs taken
        (configuration (x ∷ k) st g) (stepped k m)))
    by_move (Some l) m e rec = tt
    by_move None (faults f) e rec = tt
    by_move None bad_pick e rec = tt
    by_move None (becomes ys st' g') e rec =
        let d = configuration (ys ++ k) st' g' in
        rec d (step-fits ps bodies (next_pick g) (configuration (x ∷ k) st g) d fits
        (ap (stepped k) e))

  -- by the fuel
  pub ends-fit : (fuel taken : ℕ) (c : Config) → FitsConfig ps c
      → EndFits (outcome limits ps rs fuel taken c)
  ends-fit zero taken c fits = by_pending c.pending
    where
      by_pending : (k : List Piece)
          → EndFits (outcome limits ps rs zero taken (configuration k c.store c.grove))
      by_pending [] = values-fit rs c.store fits.fine.proper
      by_pending (x ∷ k) = tt
  ends-fit (suc fuel) taken c fits = by_pending c.pending fits (ends-fit fuel (suc taken))
    where
      by_pending : (k : List Piece) → FitsConfig ps (configuration k c.store c.grove)
          → ((d : Config) → FitsConfig ps d → EndFits (outcome limits ps rs fuel (suc taken) d))
          → EndFits (outcome limits ps rs (suc fuel) taken (configuration k c.store c.grove))
      by_pending [] here rec = values-fit rs c.store fits.fine.proper
      by_pending (x ∷ k) here rec =
          by_move fuel taken x k c.store c.grove here
          (or_else (limit_ahead limits (configuration (x ∷ k) c.store c.grove))
          (pick_limit limits (configuration (x ∷ k) c.store c.grove)))
          (move ps (next_pick c.grove) x c.store c.grove) refl rec

  -- and so do those of the run on a heap
  pub results_fit : (run : ℕ → Outcome) (fuel : ℕ) (came_out : HeapOutcome) (trees : Trees)
      → Answers run fuel came_out trees → EndFits (run fuel) → ResultsFit rs came_out
  results_fit run fuel (h.Ended steps values) trees a fit = subst EndFits a.1 fit
  results_fit run fuel (h.Fault kind steps command) trees a fit = tt
  results_fit run fuel (h.Spent steps) trees a fit = tt
  results_fit run fuel (h.Limit kind) trees a fit = tt
  results_fit run fuel h.OutOfMemory trees a fit = tt
