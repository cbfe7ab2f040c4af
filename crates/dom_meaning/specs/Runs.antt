-- Needn't be believed: the program's promise doesn't speak of it. How a run comes out, as an
-- outcome of the definitions. Want of memory is free.
use Rattle.std.specs.Prelude.{◌≡◌, ℕ, ◌+◌, List, [], map, nat_le, ◌&&◌, cond, Option, Some, None}
use Rattle.model_shapes.specs.Trees.{Trees}
use Rattle.model_terms.specs.Stores.{ProgVar}
use Rattle.model_groves.specs.Picks.{Pick, next_pick}
use Rattle.model_machine.specs.Machine as machine
use Rattle.model_machine.specs.Outcomes as model
use Rattle.model_limits.specs.Limits.{standard_limits}
use Rattle.model_groves.specs.Sizes.{greatest_node, greatest_list}
use Rattle.dom_terms.specs.Terms.{prog_var_of}
use Rattle.dom_terms.specs.Values.{value_seen}
use Rattle.grove_data.specs.Trees.{forest_of}
use Rattle.theory_syntax.specs.Commands.{command_of}
use Rattle.dom_meaning.specs.declared.runs.Outcome.{Outcome}
use Rattle.dom_meaning.specs.declared.runs.Outcome.TheVariants as o
use Rattle.dom_meaning.specs.Configs.{config_of}
use Rattle.dom_meaning.specs.Faults.{fault_kind_of, limit_kind_of}

-- the answer is the outcome of a run of these results with this fuel
abbrev pub IsOutcome : List ProgVar → ℕ → Outcome → model.Outcome → Type 0
IsOutcome results fuel (o.Ended steps values grove) came_out =
    came_out ≡ model.ends steps (map value_seen values) (forest_of grove)
IsOutcome results fuel (o.Fault kind steps command) came_out =
    came_out ≡ model.has_fault (fault_kind_of kind) steps (command_of command)
IsOutcome results fuel (o.Spent config) came_out =
    (came_out ≡ model.spends fuel (config_of config)) × (map prog_var_of config.results ≡ results)
IsOutcome results fuel (o.Limit kind) came_out = came_out ≡ model.passes_limit (limit_kind_of kind)
IsOutcome results fuel o.OutOfMemory came_out = Unit

-- What an outcome says by itself of a run with this fuel; want of memory says nothing.
abbrev pub outcome_with : Outcome → ℕ → Option model.Outcome
outcome_with (o.Ended steps values grove) fuel =
    Some (model.ends steps (map value_seen values) (forest_of grove))
outcome_with (o.Fault kind steps command) fuel =
    Some (model.has_fault (fault_kind_of kind) steps (command_of command))
outcome_with (o.Spent config) fuel = Some (model.spends fuel (config_of config))
outcome_with (o.Limit kind) fuel = Some (model.passes_limit (limit_kind_of kind))
outcome_with o.OutOfMemory fuel = None

-- the result variables of the configuration that is handed back
abbrev pub results_left : Outcome → List ProgVar
results_left (o.Spent config) = map prog_var_of config.results
results_left came_out = []

-- what holds of the configuration that is handed back
abbrev pub IfSpent : Outcome → (machine.Config → Type 0) → Type 0
IfSpent (o.Spent config) P = P (config_of config)
IfSpent came_out P = Unit

-- the next pick, and the bad one of two zeros where a number would pass the limit
abbrev pub pick_within : Trees → Pick
pick_within grove =
    cond (nat_le (1 + greatest_node grove) standard_limits.identifier
    && nat_le (1 + greatest_list grove) standard_limits.identifier) (next_pick grove)
    (record { node = 0; list = 0 })
