-- Needn't be believed: what observers are told by what the program does on the way to its answer.
use Rattle.std.specs.Prelude.{◌≡◌, ℕ, List, Option, Some, Result, Ok, Err}
use Rattle.model_answers.specs.Words.{Request, RunForm, only_outcome, with_changes, with_verdicts, run}
use Rattle.dom_terms.specs.declared.memory.OutOfMemory.{OutOfMemory}
use Rattle.run_trace.specs.Listeners.{Listener}
use Rattle.domcheck_core.specs.Answers.{Books}
use Rattle.domcheck_core.specs.Books.{ReadFrom}
use Rattle.domcheck_core.specs.Heard.{Course, HearsWhere, FileRuns}
use Rattle.domcheck_core.specs.declared.forms.RunForm as program
use Rattle.domcheck_core.specs.declared.forms.RunForm.TheVariants as f
use Rattle.domcheck_core.specs.declared.replies.Refusal.{Refusal}
use Rattle.domcheck_core.specs.declared.replies.Refusal.TheVariants as r
use Rattle.domcheck_core.specs.declared.replies.Reply.{Reply}
use Rattle.domcheck_core.specs.declared.status.Status.{Status}
use Rattle.domcheck_core.specs.declared.status.Status.TheVariants as status

-- the form of a run
abbrev pub form_of : program.RunForm → RunForm
form_of f.OnlyOutcome = only_outcome
form_of f.WithChanges = with_changes
form_of f.WithVerdicts = with_verdicts

-- the status of a reply; without one memory ran out
abbrev pub status_of : Result Reply OutOfMemory → Status
status_of (Ok reply) = reply.status
status_of (Err refused) = status.OutOfMemory

-- the same, or the library failed
abbrev pub end_of : Result Reply Refusal → Status
end_of (Ok reply) = reply.status
end_of (Err r.OutOfMemory) = status.OutOfMemory
end_of (Err r.ReadFault) = status.ReadFault

-- what observers hear of a run in each form
abbrev pub HeardIn : RunForm → (Course → Type 0) → ℕ → Status → List Listener → List Listener
    → Type 0
HeardIn with_changes Runs fuel s before after = HearsWhere Runs fuel s before after
HeardIn form Runs fuel s before after = after ≡ before

-- of a run on the books that were read
abbrev pub HeardRead : RunForm → Books → List ℕ → List ℕ → List (List ℕ) → List ℕ → ℕ → Status
    → List Listener → List Listener → Type 0
HeardRead form books file procedure arguments document fuel s before after =
    ReadFrom (books file) (λ bytes. ReadFrom (books document)
    (λ read. HeardIn form (FileRuns bytes procedure arguments read) fuel s before after))

-- of a request
abbrev pub HeardReply : Option Request → Books → Status → List Listener → List Listener → Type 0
HeardReply (Some (run form file procedure document fuel arguments)) books s before after =
    HeardRead form books file procedure arguments document fuel s before after
HeardReply r books s before after = after ≡ before
