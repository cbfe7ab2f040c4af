-- Behind each outcome there is a run.
use Rattle.std.proofs.Common.{◌≡◌, ℕ, zero, suc, List, [], ◌∷◌, ◌++◌, refl, ap, ◌∙◌, arith, Option, Some, None}
use Rattle.model_shapes.specs.Trees.{Trees}
use Rattle.model_terms.specs.Stores.{ProgVar, Store}
use Rattle.model_commands.specs.Theories.{Procedures}
use Rattle.model_groves.specs.Picks.{Pick}
use Rattle.model_machine.specs.Machine.{Piece, Move, becomes, faults, bad_pick, move, Config, configuration, stepped, runs}
use Rattle.model_groves.specs.Picks.{next_pick}
use Rattle.model_machine.specs.Outcomes.{Outcome, ends, spends, passes_limit, has_fault, no_pick, limit_ahead, pick_limit, within, on_step, outcome}
use Rattle.model_terms.specs.TermLimits.{or_else}
use Rattle.model_limits.specs.Limits.{LimitKind, Limits}
use Rattle.model_machine.specs.Behind.{Behind}
use Rattle.model_machine.proofs.Runs.{moved_on}
use Rattle.model_machine.proofs.NextMoves.{next-moves}

module _ (limits : Limits) (th : Procedures) (rs : List ProgVar) where
  module _ (fuel taken : ℕ) (x : Piece) (k : List Piece) (st : Store) (g : Trees) where
    -- a step, and what lies behind the outcome after it
    onward : (d : Config) (r : Outcome)
        → ((ps : List Pick)
        → runs th (next_pick g ∷ ps) (configuration (x ∷ k) st g) ≡ runs th ps d)
        → Behind th rs (suc taken) d r → Behind th rs taken (configuration (x ∷ k) st g) r
    onward d (ends n vs g') e b = (next_pick g ∷ b.0, b.1, omega (arith, b.2), e b.0 ∙ b.3, b.4)
    onward d (spends n left) e b = (next_pick g ∷ b.0, omega (arith, b.1), e b.0 ∙ b.2)
    onward d (has_fault f n c) e b = (next_pick g ∷ b.0, omega (arith, b.1), e b.0 ∙ b.2)
    onward d (passes_limit l) e b = (next_pick g ∷ b.0, e b.0 ∙ b.1)
    onward d no_pick e b = b

    -- the limit, and else the move
    by_move : (l : Option LimitKind) (m : Move) → move th (next_pick g) x st g ≡ m
        → ((d : Config) → Behind th rs (suc taken) d (outcome limits th rs fuel (suc taken) d))
        → Behind th rs taken (configuration (x ∷ k) st g) (within l
        (on_step (outcome limits th rs fuel (suc taken)) rs taken (configuration (x ∷ k) st g)
        (stepped k m)))
    by_move (Some l) m e rec = ([], refl)
    by_move None (faults f) e rec =
        (next_pick g ∷ [], omega arith, ap (moved_on th [] x k st g) e)
    by_move None bad_pick e rec = next-moves th x st g e
    by_move None (becomes ys st' g') e rec =
        let d = configuration (ys ++ k) st' g' in
        onward d (outcome limits th rs fuel (suc taken) d) (λ ps. ap (moved_on th ps x k st g) e)
        (rec d)

  -- by the fuel
  pub outcome-behind : (fuel taken : ℕ) (c : Config)
      → Behind th rs taken c (outcome limits th rs fuel taken c)
  outcome-behind zero taken c = by_pending c.pending
    where
      by_pending : (k : List Piece) → Behind th rs taken (configuration k c.store c.grove)
          (outcome limits th rs zero taken (configuration k c.store c.grove))
      by_pending [] = ([], c.store, omega arith, refl, refl)
      by_pending (x ∷ k) = ([], omega arith, refl)
  outcome-behind (suc fuel) taken c = by_pending c.pending (outcome-behind fuel (suc taken))
    where
      by_pending : (k : List Piece)
          → ((d : Config) → Behind th rs (suc taken) d (outcome limits th rs fuel (suc taken) d))
          → Behind th rs taken (configuration k c.store c.grove)
          (outcome limits th rs (suc fuel) taken (configuration k c.store c.grove))
      by_pending [] rec = ([], c.store, omega arith, refl, refl)
      by_pending (x ∷ k) rec =
          let here = configuration (x ∷ k) c.store c.grove in
          by_move fuel taken x k c.store c.grove
          (or_else (limit_ahead limits here) (pick_limit limits here))
          (move th (next_pick c.grove) x c.store c.grove) refl rec
