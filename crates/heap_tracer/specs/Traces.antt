-- Needn't be believed: the program's promise doesn't speak of it. What is promised of a run on a
-- heap whose changes are told.
use Rattle.std.specs.Prelude.{◌≡◌, ℕ, suc, ◌≤◌, List, map}
use Rattle.model_shapes.specs.Trees.{Trees}
use Rattle.model_terms.specs.Stores.{ProgVar}
use Rattle.model_commands.specs.Theories.{Procedures}
use Rattle.model_machine.specs.Changes.{Change}
use Rattle.model_machine.specs.Machine.{Config}
use Rattle.model_machine.specs.Outcomes.{Outcome, spends, passes_limit}
use Rattle.dom_terms.specs.Limits.{limit_kind_of}
use Rattle.heap_runner.specs.Answers.{Leaves}
use Rattle.heap_runner.specs.Reached.{Reached}
use Rattle.heap_runner.specs.declared.outcomes.HeapOutcome.{HeapOutcome}
use Rattle.heap_runner.specs.declared.outcomes.HeapOutcome.TheVariants as o
use Rattle.run_trace.specs.Listeners.{Listener, told_all, ToldSome}
use Rattle.trace_laws.specs.Followed.{Followed}

-- The run, of which it is said what comes out with each fuel, came out so with the heap's grove at
-- its end, and took so many steps: before a limit those with which the fuel is still spent; where
-- memory was refused as many as the grove tells of.
abbrev pub Took : (ℕ → Outcome) → HeapOutcome → Trees → ℕ → Type 0
Took run (o.Ended taken values) trees steps = taken ≡ steps
Took run (o.Fault kind taken command) trees steps = taken ≡ steps
Took run (o.Spent taken) trees steps = taken ≡ steps
Took run (o.Limit kind) trees steps =
    (left : Config) × (run steps ≡ spends steps left)
    × (run (suc steps) ≡ passes_limit (limit_kind_of kind))
Took run o.OutOfMemory trees steps = Leaves (run steps) trees

-- the changes are those of the steps taken, within the fuel
abbrev pub Traces : (ℕ → Outcome) → (ℕ → List Change) → ℕ → HeapOutcome → Trees → List Change
    → Type 0
Traces run changes_in fuel came_out trees changes =
    (steps : ℕ) × (steps ≤ fuel) × Took run came_out trees steps × (changes_in steps ≡ changes)

-- each observer was told the changes in their order; where memory was refused the first few
abbrev pub Hears : HeapOutcome → List Change → List Listener → List Listener → Type 0
Hears o.OutOfMemory changes before after = ToldSome changes before after
Hears came_out changes before after = after ≡ map (told_all changes) before

-- Needn't be believed: private functions alone speak of it. The run comes after so many steps to
-- this configuration, and these are its changes so far.
pub record Follows (run : ℕ → Outcome) (changes_in : ℕ → List Change) (procedures : Procedures)
    (results : List ProgVar) (steps : ℕ) (so_far : List Change) (here : Config) : Type 0 where
  pub reached : Reached run procedures results steps here
  pub followed : Followed changes_in procedures steps so_far here
