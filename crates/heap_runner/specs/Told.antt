-- Needn't be believed: the contracts of private functions alone speak of it. What is told of a
-- step.
use Rattle.std.specs.Prelude.{◌≡◌, suc, List, ◌∷◌, ◌++◌, map, option_map, Result, Ok, Err}
use Rattle.dom_terms.specs.declared.memory.OutOfMemory.{OutOfMemory}
use Rattle.dom_terms.specs.declared.values.Value.{Value}
use Rattle.dom_terms.specs.Stores.{store_of}
use Rattle.theory_syntax.specs.Commands.{command_of}
use Rattle.run_trace.specs.Changes.{change_of}
use Rattle.dom_meaning.specs.Configs.{piece_of}
use Rattle.dom_meaning.specs.Effects.{pieces_put, store_put, change_in}
use Rattle.dom_meaning.specs.declared.effects.Effect.{Effect}
use Rattle.dom_meaning.specs.declared.configurations.Pending.{Pending}
use Rattle.dom_meaning.specs.declared.configurations.Pending.TheVariants as p
use Rattle.dom_meaning.specs.declared.faults.FaultKind.{FaultKind}
use Rattle.dom_meaning.specs.declared.faults.StepFault.{StepFault}
use Rattle.dom_meaning.specs.declared.faults.StepFault.TheVariants as f
use Rattle.heap_runner.specs.Effects.{IsQuiet}
use Rattle.heap_runner.specs.RunViews.{RunView}
use Rattle.heap_runner.specs.declared.pieces.First.{First}
use Rattle.heap_runner.specs.declared.pieces.First.TheVariants as first
use Rattle.heap_runner.specs.declared.advancing.HeapStep.{HeapStep}
use Rattle.heap_runner.specs.declared.advancing.HeapStep.TheVariants as s

-- the piece is a command, and no block of its own
abbrev pub IsCommand : First → Type 0
IsCommand (first.Command command) = Unit
IsCommand piece = ⊥

-- the fault of the piece, unless memory was refused
abbrev pub FaultTold : FaultKind → Pending → HeapStep → Type 0
FaultTold kind (p.Run command) (s.Fault told copy) =
    (told ≡ kind) × (command_of copy ≡ command_of command)
FaultTold kind piece s.OutOfMemory = Unit
FaultTold kind piece step = ⊥

-- what the effect says was put in place, and the step counted; or memory was refused
abbrev pub WentOn : Effect → RunView → RunView → HeapStep → Type 0
WentOn effect before after (s.Next change) =
    ((first : Pending) (others : List Pending) → before.pending ≡ first ∷ others
    → map piece_of after.pending
    ≡ pieces_put effect (piece_of first) (store_of before.store) ++ map piece_of others)
    × (store_of after.store ≡ store_put effect (store_of before.store))
    × (after.steps ≡ suc before.steps) × (after.results ≡ before.results)
    × (option_map change_of change ≡ change_in (suc before.steps) effect)
WentOn effect before after s.OutOfMemory = (after ≡ before) × IsQuiet effect
WentOn effect before after step = ⊥

-- the end of a run
abbrev pub done_with : Result (List Value) OutOfMemory → HeapStep
done_with (Ok values) = s.Done values
done_with (Err refused) = s.OutOfMemory

-- a step that isn't taken
abbrev pub refused_with : StepFault → HeapStep
refused_with (f.Limit kind) = s.Limit kind
refused_with f.OutOfMemory = s.OutOfMemory
