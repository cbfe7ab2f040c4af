-- Local triples, as in PODS 2008: a triple holds in every context, over every list of picks.
-- Of a run that isn't at its end, or that met a bad pick, it is asked that it hasn't faulted.
use Rattle.std.specs.Prelude.{◌≡◌, List}
use Rattle.model_shapes.specs.Sorts.{shape, context, DataSort, grove}
use Rattle.model_shapes.specs.Trees.{Trees, fill}
use Rattle.model_shapes.specs.Shapes.{SameAt, Shaped}
use Rattle.model_formulas.specs.Formulas.{Formula}
use Rattle.model_formulas.specs.Satisfaction.{Environment, Meets, Proper, with_store}
use Rattle.model_terms.specs.Stores.{Store, lookup}
use Rattle.model_commands.specs.Commands.{Command}
use Rattle.model_commands.specs.Theories.{Procedure, Procedures}
use Rattle.model_groves.specs.Picks.{Pick}
use Rattle.model_machine.specs.Machine.{FaultKind, beginning, RunOutcome, ended, fault, runs}

-- The grove is the same as the context, filled with some data of the sort that meets the formula.
abbrev pub EndsWith : DataSort → Trees → Formula → Environment → Store → Trees → Type 0
EndsWith d around post e store g =
    (b : Trees) × Shaped (shape d) b × Shaped (shape grove) (fill around b)
    × SameAt grove g (fill around b) × Meets post (with_store (lookup store) e) (shape d) b

-- a run isn't at a fault, and where it is at its end, that is as asked
pub record GoesWell (AtEnd : Store → Trees → Type 0) (came_to : RunOutcome) : Type 0 where
  pub faultless : (kind : FaultKind) → came_to ≡ fault kind → ⊥
  pub each_end : (store : Store) (roots : Trees) → came_to ≡ ended store roots → AtEnd store roots

-- `pre P do C post Q at D`: for every choice of the logic variables and every store; for every
-- shape of the sort that meets P; in every context into which it may be put; and over every list of
-- picks: the run doesn't fault, and where it ends, the same context stands round data that meets Q.
abbrev pub HoldsLocally : Procedures → Formula → Command → Formula → DataSort → Type 0
HoldsLocally procedures pre command post d =
    (e : Environment) (store : Store) → Proper (with_store (lookup store) e)
    → (data_before : Trees) → Shaped (shape d) data_before
    → Meets pre (with_store (lookup store) e) (shape d) data_before
    → (around : Trees) → Shaped (context d grove) around
    → Shaped (shape grove) (fill around data_before)
    → (picks : List Pick)
    → GoesWell (EndsWith d around post e)
    (runs procedures picks (beginning command store (fill around data_before)))

-- a procedure does what its requires and its ensures say
abbrev pub MeetsItsSpecification : Procedures → Procedure → Type 0
MeetsItsSpecification procedures f = HoldsLocally procedures f.pre f.body f.post f.sort
