-- Needn't be believed: the form of triples in which the rules are proved, with "some data" read
-- classically, for the runs whose number of picks passes a test. Laws give the plain form back.
use Rattle.std.specs.Prelude.{ℕ, List, length}
use Rattle.model_shapes.specs.Sorts.{shape, context, DataSort, grove}
use Rattle.model_shapes.specs.Trees.{Trees, fill}
use Rattle.model_shapes.specs.Shapes.{SameAt, Shaped}
use Rattle.model_formulas.specs.Formulas.{Formula}
use Rattle.model_formulas.specs.Satisfaction.{Environment, Meets, Proper, SomeShape, with_store}
use Rattle.model_terms.specs.Stores.{Store, lookup}
use Rattle.model_commands.specs.Commands.{Command}
use Rattle.model_commands.specs.Theories.{Procedures}
use Rattle.model_groves.specs.Picks.{Pick}
use Rattle.model_machine.specs.Machine.{beginning, RunOutcome, running, ended, fault, picked_badly, runs}

-- what is asked of a fault, and what of an end; nothing is asked of the others
abbrev pub Ends : Type 0 → (Store → Trees → Type 0) → RunOutcome → Type 0
Ends OnFault OnEnd running = Unit
Ends OnFault OnEnd picked_badly = Unit
Ends OnFault OnEnd (fault kind) = OnFault
Ends OnFault OnEnd (ended store g) = OnEnd store g

-- some data that meets the formula stands in the context
abbrev pub Stands : DataSort → Trees → Formula → Environment → Store → Trees → Type 0
Stands d around post e store g =
    SomeShape (shape d) λ b. SameAt grove g (fill around b)
    × Meets post (with_store (lookup store) e) (shape d) b

-- the triple, for the runs whose number of picks passes the test
abbrev pub TripleFor : Procedures → (ℕ → Type 0) → Formula → Command → Formula → DataSort
    → Type 0
TripleFor procedures Length pre command post d =
    (e : Environment) (store : Store) → Proper (with_store (lookup store) e)
    → (r : Trees) → Shaped (shape d) r → Meets pre (with_store (lookup store) e) (shape d) r
    → (around : Trees) → Shaped (context d grove) around → Shaped (shape grove) (fill around r)
    → (picks : List Pick) → Length (length picks)
    → Ends ⊥ (Stands d around post e)
    (runs procedures picks (beginning command store (fill around r)))
