-- A command whose first step is its last.
use Rattle.std.proofs.Common.{◌≡◌, List, [], ◌∷◌, ◌++◌, sym, subst}
use mathlib.Core.HLevel.{Stable}
use Rattle.model_shapes.specs.Sorts.{DataSort}
use Rattle.model_shapes.specs.Trees.{Trees}
use Rattle.model_formulas.specs.Formulas.{Formula}
use Rattle.model_formulas.specs.Satisfaction.{Environment}
use Rattle.model_formulas.proofs.Stable.{stable-not}
use Rattle.model_machine.specs.ClassicalTriples.{Ends, Stands}
use Rattle.model_machine.specs.Machine.{configuration, Move, Piece, becomes, faults, bad_pick, move, runs, RunOutcome}
use Rattle.model_groves.specs.Picks.{Pick}
use Rattle.model_terms.specs.Stores.{Store}
use Rattle.model_commands.specs.Theories.{Procedures}
use Rattle.model_machine.proofs.Runs.{moved_on}
use Rattle.triple_laws.proofs.Endings.{stable-Ends}

-- nothing more is pending after the move, and what is asked of an end holds
abbrev pub Lands : (Store → Trees → Type 0) → Move → Type 0
Lands J (becomes pieces st g) = (pieces ≡ []) × J st g
Lands J (faults f) = ⊥
Lands J bad_pick = Unit

-- so the runs end well
pub one-step : (th : Procedures) (J : Store → Trees → Type 0) (picks : List Pick) (x : Piece)
    (st : Store) (g : Trees) → ((k : Pick) → Lands J (move th k x st g))
    → Ends ⊥ J (runs th picks (configuration (x ∷ []) st g))
one-step th J [] x st g h = tt
one-step th J (k ∷ picks) x st g h = landed (move th k x st g) (h k)
  where
    ended-well : (picks : List Pick) (st' : Store) (g' : Trees) → J st' g'
        → Ends ⊥ J (runs th picks (configuration [] st' g'))
    ended-well [] st' g' j = j
    ended-well (k ∷ picks) st' g' j = j

    landed : (m : Move) → Lands J m → Ends ⊥ J (moved_on th picks x [] st g m)
    landed (becomes pieces st' g') l =
        subst (λ z. Ends ⊥ J (runs th picks (configuration (z ++ []) st' g'))) (sym l.0)
        (ended-well picks st' g' l.1)
    landed (faults f) l = l
    landed bad_pick l = tt

-- that a run ends well is stable
pub stable-ends : (d : DataSort) (c : Trees) (q : Formula) (e : Environment) (o : RunOutcome)
    → Stable (Ends ⊥ (Stands d c q e) o)
stable-ends d c q e o = stable-Ends (Stands d c q e) (λ st' g'. stable-not) o
