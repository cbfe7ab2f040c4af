-- Needn't be believed: the program's promise doesn't speak of it. How a run on a heap comes out, as
-- an outcome of the definitions, and which grove the heap then stands for. The order of the roots
-- is free, and so is want of memory.
use Rattle.std.specs.Prelude.{◌≡◌, ℕ, suc, ◌<◌, ◌≤◌, map, Option, Some, None}
use Rattle.model_shapes.specs.Sorts.{grove}
use Rattle.model_shapes.specs.Trees.{Trees}
use Rattle.model_shapes.specs.Shapes.{SameAt}
use Rattle.model_machine.specs.Machine.{Config}
use Rattle.model_machine.specs.Outcomes as model
use Rattle.dom_terms.specs.Limits.{limit_kind_of}
use Rattle.dom_terms.specs.Values.{value_seen}
use Rattle.theory_syntax.specs.Commands.{command_of}
use Rattle.dom_meaning.specs.Faults.{fault_kind_of}
use Rattle.heap_runner.specs.declared.outcomes.HeapOutcome.{HeapOutcome}
use Rattle.heap_runner.specs.declared.outcomes.HeapOutcome.TheVariants as o

-- What a heap's outcome says by itself of a run that leaves this configuration; want of memory says
-- nothing.
abbrev pub outcome_leaving : HeapOutcome → Config → Option model.Outcome
outcome_leaving (o.Ended steps values) left =
    Some (model.ends steps (map value_seen values) left.grove)
outcome_leaving (o.Fault kind steps command) left =
    Some (model.has_fault (fault_kind_of kind) steps (command_of command))
outcome_leaving (o.Spent steps) left = Some (model.spends steps left)
outcome_leaving (o.Limit kind) left = Some (model.passes_limit (limit_kind_of kind))
outcome_leaving o.OutOfMemory left = None

-- the grove is that which a run leaves that ends or whose fuel is spent
abbrev pub Leaves : model.Outcome → Trees → Type 0
Leaves (model.ends steps values left) trees = SameAt grove trees left
Leaves (model.spends steps left) trees = SameAt grove trees left.grove
Leaves came_out trees = ⊥

-- THE ANSWER to a run with this fuel, where `run` says what comes out with each fuel. It is what
-- comes out, and the grove of the heap is that of the steps taken: the one that the run leaves with
-- as much fuel as it took steps. A limit comes with one step more.
abbrev pub Answers : (ℕ → model.Outcome) → ℕ → HeapOutcome → Trees → Type 0
Answers run fuel (o.Ended steps values) trees =
    (left : Trees) × (run fuel ≡ model.ends steps (map value_seen values) left)
    × SameAt grove trees left
Answers run fuel (o.Fault kind steps command) trees =
    (run fuel ≡ model.has_fault (fault_kind_of kind) steps (command_of command))
    × Leaves (run steps) trees
Answers run fuel (o.Spent steps) trees =
    (left : Config) × (run fuel ≡ model.spends steps left) × (steps ≡ fuel)
    × SameAt grove trees left.grove
Answers run fuel (o.Limit kind) trees =
    (run fuel ≡ model.passes_limit (limit_kind_of kind)) × (steps : ℕ) × (steps < fuel)
    × (run (suc steps) ≡ model.passes_limit (limit_kind_of kind)) × Leaves (run steps) trees
Answers run fuel o.OutOfMemory trees =
    (steps : ℕ) × (steps ≤ fuel) × Leaves (run steps) trees
