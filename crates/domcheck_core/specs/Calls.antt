-- Needn't be believed: what a call of the program stands for, and what a run needs of it.
use Rattle.std.specs.Prelude.{◌≡◌, ℕ, List, Option, Some, slice_get, map}
use Rattle.model_shapes.specs.Sorts.{grove}
use Rattle.model_shapes.specs.Trees.{Trees}
use Rattle.model_shapes.specs.Shapes.{SameAt}
use Rattle.model_machine.specs.Machine.{Config}
use Rattle.model_machine.specs.Outcomes as model
use Rattle.model_machine.specs.Outcomes.{Outcome}
use Rattle.model_terms.specs.Stores.{ProgVar}
use Rattle.model_machine.specs.Fitting.{ValuesFit}
use Rattle.model_files.specs.FileFaults.{IsWellFormedTheory}
use Rattle.dom_terms.specs.Terms.{prog_var_of}
use Rattle.dom_terms.specs.Limits.{limit_kind_of}
use Rattle.dom_meaning.specs.Faults.{fault_kind_of}
use Rattle.theory_syntax.specs.Commands.{command_of}
use Rattle.heap_runner.specs.declared.outcomes.HeapOutcome.{HeapOutcome}
use Rattle.heap_runner.specs.declared.outcomes.HeapOutcome.TheVariants as h
use Rattle.theory_syntax.specs.declared.theories.Procedure.{Procedure}
use Rattle.theory_syntax.specs.declared.theories.Theory.{Theory}
use Rattle.model_commands.specs.Theories.{procedure_named}
use Rattle.theory_syntax.specs.Theories.{procedure_of, theory_of}
use Rattle.dom_terms.specs.Values.{value_seen}
use Rattle.model_answers.specs.Arguments.{called}
use Rattle.model_answers.specs.Texts.{IsFile}
use Rattle.domcheck_core.specs.Answers.{GroveAnswers, DocumentAnswer, RunAnswer}
use Rattle.domcheck_core.specs.declared.calls.Call.{Call}
use Rattle.domcheck_core.specs.declared.runs.Opened.{Opened}
use Rattle.domcheck_core.specs.declared.runs.Opened.TheVariants as opened
use Rattle.domcheck_core.specs.declared.status.Status.{Status}

-- a procedure stands at the place, and it is the first of the name
abbrev pub IsPlaceOf : List ℕ → List Procedure → ℕ → Type 0
IsPlaceOf name procedures place =
    (f : Procedure) × (slice_get procedures place ≡ Some f)
    × (procedure_named name (map procedure_of procedures) ≡ Some (procedure_of f))

-- a procedure stands at the place, and it with the values is what is called
abbrev pub IsCallOf : Theory → List ℕ → List (List ℕ) → Call → Type 0
IsCallOf theory name arguments call =
    (f : Procedure) × (slice_get theory.procedures call.procedure ≡ Some f)
    × (called (theory_of theory) name arguments ≡ Some (procedure_of f, map value_seen call.values))

-- the theory is well formed, and the values fit the parameters of the procedure
pub record FitsCall (theory : Theory) (call : Call) : Type 0 where
  pub well_formed : IsWellFormedTheory (theory_of theory)
  pub procedure : Procedure
  pub stands : slice_get theory.procedures call.procedure ≡ Some procedure
  pub fit : ValuesFit (map prog_var_of procedure.params) (map value_seen call.values)

-- what the bytes of a file come to: a call, or the answer whatever the document is
abbrev pub IsOpened : List ℕ → List ℕ → List (List ℕ) → Opened → Type 0
IsOpened bytes name arguments (opened.Called theory call) =
    IsFile bytes (theory_of theory) × IsCallOf theory name arguments call
IsOpened bytes name arguments (opened.Answered reply) =
    (on_grove : GroveAnswers) (document : Option (List ℕ)) (fuel : ℕ)
    → RunAnswer on_grove document bytes name fuel arguments reply.status reply.output

-- the answer of the call on a document with these bytes, where this is that on a grove
abbrev pub CallAnswer : GroveAnswers → Theory → Call → ℕ → List ℕ → Status → List ℕ → Type 0
CallAnswer on_grove theory call fuel document s output =
    (f : Procedure) → slice_get theory.procedures call.procedure ≡ Some f
    → DocumentAnswer on_grove (theory_of theory) (procedure_of f) (map value_seen call.values) fuel
    document s output

-- the values with which a run on a heap ended fit these variables
abbrev pub ResultsFit : List ProgVar → HeapOutcome → Type 0
ResultsFit results (h.Ended steps values) = ValuesFit results (map value_seen values)
ResultsFit results outcome = Unit

-- A run on a heap came out so, by the definitions: with the heap's grove at its end, up to the
-- order of roots.
abbrev pub CameOut : HeapOutcome → Trees → Outcome → Type 0
CameOut (h.Ended steps values) trees came_out =
    (left : Trees) × (came_out ≡ model.ends steps (map value_seen values) left)
    × SameAt grove trees left
CameOut (h.Fault kind steps command) trees came_out =
    came_out ≡ model.has_fault (fault_kind_of kind) steps (command_of command)
CameOut (h.Spent steps) trees came_out = (left : Config) × (came_out ≡ model.spends steps left)
CameOut (h.Limit kind) trees came_out = came_out ≡ model.passes_limit (limit_kind_of kind)
CameOut h.OutOfMemory trees came_out = Unit
