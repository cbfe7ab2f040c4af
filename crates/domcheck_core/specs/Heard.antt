-- What observers are told by a call.
use Rattle.std.specs.Prelude.{◌≡◌, ℕ, suc, ◌≤◌, List, map, Option, Some, None}
use Rattle.model_limits.specs.Limits.{standard_limits}
use Rattle.model_shapes.specs.Trees.{Trees}
use Rattle.model_shapes.specs.Values.{Value}
use Rattle.model_formulas.specs.Formulas.{Named}
use Rattle.model_commands.specs.Theories.{ProcedureOf, Theory}
use Rattle.model_documents.specs.Grammar.{SpellsGrove}
use Rattle.model_machine.specs.Changes.{Change}
use Rattle.model_machine.specs.Machine.{Config}
use Rattle.model_machine.specs.Outcomes.{Outcome, ends, spends, passes_limit, has_fault, no_pick}
use Rattle.model_text.specs.Nesting.{lexemes_of}
use Rattle.model_answers.specs.Arguments.{called}
use Rattle.model_answers.specs.Texts.{limit_passed, IsFile}
use Rattle.model_answers.specs.Words.{Request, with_changes, run}
use Rattle.run_trace.specs.Listeners.{Listener, told_all, ToldSome}
use Rattle.domcheck_core.specs.Answers.{Books, IsTold, refusal, outcome_on, changes_on}
use Rattle.domcheck_core.specs.declared.status.Status.{Status}
use Rattle.domcheck_core.specs.declared.status.Status.TheVariants as status

-- what comes out of a run with each fuel, and what it changes in each number of steps
pub record Course : Type 0 where
  pub comes : ℕ → Outcome
  pub changes_in : ℕ → List Change

-- of the procedure on these values and this document
abbrev pub course_of : Theory → ProcedureOf Named → List Value → Trees → Course
course_of theory f values document = record {
  comes = λ fuel. outcome_on theory f values fuel document;
  changes_in = changes_on theory f values document;
}

-- a run that comes out so takes so many steps: before a limit those with which the fuel is still
-- spent
abbrev pub Takes : (ℕ → Outcome) → Outcome → ℕ → Type 0
Takes comes (ends taken values trees) steps = taken ≡ steps
Takes comes (has_fault kind taken command) steps = taken ≡ steps
Takes comes (spends taken config) steps = taken ≡ steps
Takes comes (passes_limit kind) steps =
    (left : Config) × (comes steps ≡ spends steps left) × (comes (suc steps) ≡ passes_limit kind)
Takes comes no_pick steps = ⊥

-- What observers are after a call that comes to a run of this course within the fuel, and ends so:
-- each was told the changes of the steps taken, in their order. Where memory ran out each was told
-- the first few, and where the library failed nothing.
abbrev pub Hears : Course → ℕ → Status → List Listener → List Listener → Type 0
Hears course fuel status.OutOfMemory before after =
    (steps : ℕ) × (steps ≤ fuel) × ToldSome (course.changes_in steps) before after
Hears course fuel status.ReadFault before after = after ≡ before
Hears course fuel s before after =
    (steps : ℕ) × (steps ≤ fuel) × Takes course.comes (course.comes fuel) steps
    × (after ≡ map (told_all (course.changes_in steps)) before)

-- Of a call that comes to the runs of which this holds. Where it comes to none, and where the
-- library failed, they are as before.
abbrev pub HearsWhere : (Course → Type 0) → ℕ → Status → List Listener → List Listener → Type 0
HearsWhere Runs fuel s before after =
    (s ≡ status.ReadFault → after ≡ before)
    × ((course : Course) → Runs course → Hears course fuel s before after)
    × (((course : Course) → Runs course → ⊥) → after ≡ before)

-- the run on a document that spells this grove, unless it is refused
abbrev pub GroveRuns : Theory → ProcedureOf Named → List Value → Trees → Course → Type 0
GroveRuns theory f values document course =
    (refusal document ≡ None) × (course ≡ course_of theory f values document)

-- on one with these bytes
abbrev pub DocumentRuns : Theory → ProcedureOf Named → List Value → List ℕ → Course → Type 0
DocumentRuns theory f values bytes course =
    (limit_passed standard_limits.document_nesting bytes ≡ None)
    × (document : Trees) × SpellsGrove document (lexemes_of bytes)
    × GroveRuns theory f values document course

-- where the file with these bytes has the procedure, and the arguments read
abbrev pub FileRuns : List ℕ → List ℕ → List (List ℕ) → List ℕ → Course → Type 0
FileRuns bytes procedure arguments read course =
    (theory : Theory) × IsFile bytes theory × (f : ProcedureOf Named) × (values : List Value)
    × (called theory procedure arguments ≡ Some (f, values))
    × DocumentRuns theory f values read course

-- of the books that the library tells
abbrev pub BookRuns : Books → List ℕ → List ℕ → List (List ℕ) → List ℕ → Course → Type 0
BookRuns books file procedure arguments document course =
    (bytes : List ℕ) × (books file ≡ Some bytes) × (read : List ℕ) × (books document ≡ Some read)
    × FileRuns bytes procedure arguments read course

-- What observers are after a request: a trace tells them what its run changes, where the books are
-- told. Where the library failed, and after every other request, they are as before.
abbrev pub Heard : Option Request → Books → Status → List Listener → List Listener → Type 0
Heard (Some (run with_changes file procedure document fuel arguments)) books s before after =
    (s ≡ status.ReadFault → after ≡ before)
    × (IsTold (Some (run with_changes file procedure document fuel arguments)) books
    → HearsWhere (BookRuns books file procedure arguments document) fuel s before after)
Heard r books s before after = after ≡ before
