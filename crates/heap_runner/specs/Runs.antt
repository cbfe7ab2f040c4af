-- Needn't be believed: the program's promise doesn't speak of it. What one step of a run on a heap
-- answers and leaves, as a step of the machine of the definitions.
use Rattle.std.specs.Prelude.{◌≡◌, suc, [], map, option_map}
use Rattle.model_shapes.specs.Trees.{Trees}
use Rattle.model_commands.specs.Theories.{Procedures}
use Rattle.model_groves.specs.Picks.{next_pick}
use Rattle.model_machine.specs.Changes as model
use Rattle.model_machine.specs.Machine.{step, at_fault}
use Rattle.model_machine.specs.Outcomes.{values_in, first_command}
use Rattle.std.specs.Prelude.{Some, None}
use Rattle.dom_terms.specs.Limits.{limit_kind_of}
use Rattle.dom_terms.specs.Values.{value_seen}
use Rattle.theory_syntax.specs.Commands.{command_of}
use Rattle.dom_meaning.specs.Faults.{fault_kind_of}
use Rattle.run_trace.specs.Changes.{change_of}
use Rattle.heap_runner.specs.RunViews.{RunView, config_on}
use Rattle.heap_runner.specs.Steps.{Leads}
use Rattle.heap_runner.specs.Turns.{limit_here}
use Rattle.heap_runner.specs.declared.advancing.HeapStep.{HeapStep}
use Rattle.heap_runner.specs.declared.advancing.HeapStep.TheVariants as s

-- run and grove are as before
abbrev pub Stays : RunView → RunView → Trees → Trees → Type 0
Stays before after old new = (after ≡ before) × (new ≡ old)

-- what a step answered, where the run and the grove were the former and are the latter
abbrev pub Advanced : Procedures → RunView → RunView → Trees → Trees → HeapStep → Type 0
Advanced ps before after old new (s.Next change) =
    (limit_here (config_on before old) ≡ None)
    × Leads (step ps (config_on before old) (next_pick old)) (config_on after new)
    × (after.steps ≡ suc before.steps) × (after.results ≡ before.results)
    × (option_map change_of change
    ≡ model.change_of (suc before.steps) (next_pick old) (config_on before old))
Advanced ps before after old new (s.Done values) =
    (before.pending ≡ [])
    × (map value_seen values ≡ values_in before.results (config_on before old).store)
    × Stays before after old new
Advanced ps before after old new (s.Fault kind command) =
    (limit_here (config_on before old) ≡ None)
    × (step ps (config_on before old) (next_pick old) ≡ at_fault (fault_kind_of kind))
    × (command_of command ≡ first_command (config_on before old).pending)
    × Stays before after old new
Advanced ps before after old new (s.Limit kind) =
    (limit_here (config_on before old) ≡ Some (limit_kind_of kind)) × Stays before after old new
Advanced ps before after old new s.OutOfMemory = Stays before after old new
