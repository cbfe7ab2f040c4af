-- The answer to the words: the status and the output, one case for each row.
use Rattle.std.specs.Prelude.{◌≡◌, ℕ, zero, suc, ◌*◌, nat_le, List, [], ◌++◌, length, map, Option, Some, None, option_map, slice_get}
use Rattle.model_shapes.specs.Trees.{Trees}
use Rattle.model_shapes.specs.Sorts.{grove}
use Rattle.model_shapes.specs.Tests.{same_data_sort}
use Rattle.model_shapes.specs.Values.{Name, Value}
use Rattle.model_formulas.specs.Formulas.{Named}
use Rattle.model_terms.specs.Terms.{Term}
use Rattle.model_terms.specs.Stores.{ProgVar, Store}
use Rattle.model_terms.specs.TermLimits.{or_else, unless}
use Rattle.model_commands.specs.Theories.{ProcedureOf, StepOf, Theory, procedures_of, procedure_named, by_rule}
use Rattle.model_files.specs.FileFaults.{FileFault, first_file_fault}
use Rattle.model_machine.specs.Changes.{Change, changes}
use Rattle.model_machine.specs.Machine.{start}
use Rattle.model_machine.specs.Outcomes.{Outcome, ends, spends, passes_limit, has_fault, no_pick, outcome}
use Rattle.model_limits.specs.Limits as limits
use Rattle.model_limits.specs.Limits.{standard_limits}
use Rattle.model_groves.specs.Sizes.{size}
use Rattle.rule_table.specs.Verdicts as verdicts
use Rattle.rule_table.specs.Accepted.{IsAccepted, BadPlace, Fault, gap, fails, no_proof, IsFirstBad}
use Rattle.model_filling.specs.Offers.{Voice}
use Rattle.model_filling.specs.Filled.{IsFilled, FailsFirst, filled_limit}
use Rattle.model_text.specs.Lexemes.{Lexeme}
use Rattle.model_text.specs.Nesting.{lexemes_of}
use Rattle.model_text.specs.FaultTokens.{IsFaultToken}
use Rattle.model_documents.specs.Grammar.{SpellsGrove}
use Rattle.model_documents.specs.Numbers.{first_out_of_range, first_repeat}
use Rattle.model_grammar.specs.Theories.{SpellsTheory}
use Rattle.model_grammar.specs.TheoryWriting.{theory_text}
use Rattle.model_generator.specs.Made.{made_text}
use Rattle.model_weakest.specs.Straight.{first_not_straight, is_short}
use Rattle.model_weakest.specs.Written.{AreNew, new_sorts, new_variables, written}
use Rattle.model_watch.specs.Watchable.{first_unwatchable}
use Rattle.model_watch.specs.WatchLimits.{watching_limit}
use Rattle.model_watch.specs.Watching.{is_met}
use Rattle.watch_laws.specs.WatchedStores.{before_store, after_store}
use Rattle.model_answers.specs.Words.{Request, RunForm, only_outcome, with_changes, with_verdicts, check, fill, wp, run, make, trial}
use Rattle.model_answers.specs.Arguments.{called}
use Rattle.model_answers.specs.Texts.{limit_passed, theory_limit, IsFile}
use Rattle.model_answers.specs.Output.{line, lines_of, accepted_text, accepted_line, fail_line, no_proof_line, gap_line, bad_words_line, bad_text_line, bad_document_text_line, file_fault_line, range_line, repeat_line, limit_line, fault_line, spent_line, ended_lines, change_text, not_straight_sort_line, not_straight_line, precondition_lines, requires_line, ensures_line, not_watchable_sort_line, not_watchable_requires_line, not_watchable_ensures_line}
use Rattle.run_trace.specs.Listeners.{Listener, said_by, told_all}
use Rattle.dom_terms.specs.declared.limits.LimitKind.{LimitKind}
use Rattle.dom_terms.specs.declared.limits.LimitKind.TheVariants as l
use Rattle.domcheck_core.specs.declared.status.Status.{Status}
use Rattle.domcheck_core.specs.declared.status.Status.TheVariants as status

-- a status and the output with it
abbrev pub Answer : Type 0
Answer = Status × List ℕ

-- the status that names a limit
abbrev pub limit_named : limits.LimitKind → LimitKind
limit_named limits.file_limit = l.File
limit_named limits.nesting_limit = l.Nesting
limit_named limits.text_limit = l.Text
limit_named limits.variables_limit = l.Variables
limit_named limits.steps_limit = l.Steps
limit_named limits.nodes_limit = l.Nodes
limit_named limits.identifier_limit = l.Identifier
limit_named limits.number_limit = l.Number
limit_named limits.depth_limit = l.Depth
limit_named limits.straight_limit = l.Straight
limit_named limits.watch_limit = l.Watch

abbrev pub limit_answer : limits.LimitKind → Answer
limit_answer kind = (status.Limit (limit_named kind), limit_line kind)

-- TEXTS
-- the answer to a text that isn't read: it passes a limit, or it spells nothing of its language, in
-- which so many brackets may be open; with the line for its fault token
pub data Unread {A : Type 0} (Spells : A → List Lexeme → Type 0) (most : ℕ)
    (bad_line : ℕ → List ℕ) (bytes : List ℕ) : Status → List ℕ → Type 0 where
  over_limit : {s : Status} {output : List ℕ}
      → option_map limit_answer (limit_passed most bytes) ≡ Some (s, output)
      → Unread Spells most bad_line bytes s output
  spells_nothing : (token : ℕ) → limit_passed most bytes ≡ None
      → ((a : A) → Spells a (lexemes_of bytes) → ⊥) → IsFaultToken Spells (lexemes_of bytes) token
      → Unread Spells most bad_line bytes status.BadText (bad_line token)

-- the answer to a fault of a file
abbrev pub fault_answer : FileFault → Answer
fault_answer fault = (status.BadFile, file_fault_line fault)

-- the answer to a theory that no file may have: its first fault, or else the limit that it passes
abbrev pub theory_refusal : Theory → Option Answer
theory_refusal theory = or_else (option_map fault_answer (first_file_fault theory))
    (option_map limit_answer (theory_limit theory))

-- the answer to bytes that are no file
pub data NoFile (bytes : List ℕ) : Status → List ℕ → Type 0 where
  unread : {s : Status} {output : List ℕ}
      → Unread SpellsTheory standard_limits.file_nesting bad_text_line bytes s output
      → NoFile bytes s output
  refused : (theory : Theory) {s : Status} {output : List ℕ}
      → limit_passed standard_limits.file_nesting bytes ≡ None
      → SpellsTheory theory (lexemes_of bytes) → theory_refusal theory ≡ Some (s, output)
      → NoFile bytes s output

-- the answer to the bytes of a file, where this is the answer to its theory
pub data FileAnswer (Verdict : Theory → Status → List ℕ → Type 0) (bytes : List ℕ)
    : Status → List ℕ → Type 0 where
  no_file : {s : Status} {output : List ℕ} → NoFile bytes s output
      → FileAnswer Verdict bytes s output
  judged : (theory : Theory) {s : Status} {output : List ℕ} → IsFile bytes theory
      → Verdict theory s output → FileAnswer Verdict bytes s output

-- BAD PLACES
-- the one with the number, counted from 1
abbrev pub item_numbered : {A : Type 0} → ℕ → List A → Option A
item_numbered zero items = None
item_numbered (suc n) items = slice_get items n

-- the answer to a bad place of a theory: the step of a procedure, or the end of its proof, each
-- counted from 1, and why it is bad
pub data PlaceAnswer (theory : Theory) (procedure place : ℕ)
    : Fault → Status → List ℕ → Type 0 where
  has_gap : (f : ProcedureOf Named) (step : StepOf Named)
      → item_numbered procedure theory.procedures ≡ Some f → item_numbered place f.proof ≡ Some step
      → PlaceAnswer theory procedure place gap status.GapLeft
      (gap_line step.number f.name step.line)
  step_fails : (f : ProcedureOf Named) (step : StepOf Named) (name citations : List ℕ)
      (arguments : List Term) (verdict : verdicts.Verdict)
      → item_numbered procedure theory.procedures ≡ Some f → item_numbered place f.proof ≡ Some step
      → step.reason ≡ by_rule name citations arguments
      → PlaceAnswer theory procedure place (fails verdict) status.StepFails
      (fail_line step.number f.name step.line name verdict)
  has_no_proof : (f : ProcedureOf Named) → item_numbered procedure theory.procedures ≡ Some f
      → PlaceAnswer theory procedure place no_proof status.StepFails (no_proof_line f.name)

-- CHECK
-- the answer of `check` on the theory of a file
pub data CheckVerdict (theory : Theory) : Status → List ℕ → Type 0 where
  says_yes : IsAccepted theory → CheckVerdict theory status.Done (accepted_line theory)
  says_no : (bad : BadPlace) {s : Status} {output : List ℕ} → IsFirstBad theory bad
      → PlaceAnswer theory bad.procedure bad.step bad.fault s output
      → CheckVerdict theory s output

-- and on bytes
abbrev pub CheckAnswer : List ℕ → Status → List ℕ → Type 0
CheckAnswer bytes = FileAnswer CheckVerdict bytes

-- FILL
-- the answer of `fill` on the theory of a file, whose gaps these fillers fill: the text of the
-- filled theory, the limit that it passes, or the first place that fails
pub data FillVerdict (voices : List Voice) (theory : Theory) : Status → List ℕ → Type 0 where
  says_filled : (filled : Theory) → IsFilled theory voices filled → filled_limit filled ≡ None
      → FillVerdict voices theory status.Done (theory_text filled)
  fills_too_much : (filled : Theory) {s : Status} {output : List ℕ} → IsFilled theory voices filled
      → option_map limit_answer (filled_limit filled) ≡ Some (s, output)
      → FillVerdict voices theory s output
  cannot_fill : (bad : BadPlace) {s : Status} {output : List ℕ} → FailsFirst theory voices bad
      → PlaceAnswer theory bad.procedure bad.step bad.fault s output
      → FillVerdict voices theory s output

-- and on bytes
abbrev pub FillAnswer : List Voice → List ℕ → Status → List ℕ → Type 0
FillAnswer voices bytes = FileAnswer (FillVerdict voices) bytes

-- WP
-- what keeps a procedure from having its weakest precondition printed: its sort, the first command
-- of its body that isn't straight-line, or the length of its body
abbrev pub precondition_refusal : ProcedureOf Named → Option Answer
precondition_refusal f =
    or_else (unless (same_data_sort f.sort grove) (status.NotStraight, not_straight_sort_line))
    (or_else
    (option_map (λ c. (status.NotStraight, not_straight_line c)) (first_not_straight f.body))
    (unless (is_short f.body) (limit_answer limits.straight_limit)))

-- the answer on a procedure, by names that the file doesn't declare
pub data PreconditionAnswer (theory : Theory) (f : ProcedureOf Named)
    : Status → List ℕ → Type 0 where
  has_none : {s : Status} {output : List ℕ} → precondition_refusal f ≡ Some (s, output)
      → PreconditionAnswer theory f s output
  has_one : (names : List Name) → precondition_refusal f ≡ None → AreNew theory.logic 1 names
      → length names ≡ length (new_sorts f.body)
      → PreconditionAnswer theory f status.Done
      (precondition_lines (new_variables names (new_sorts f.body)) (written names f.body f.post))

-- the answer of `wp` on the theory of a file, for its procedure of the name
pub data WpVerdict (procedure : Name) (theory : Theory) : Status → List ℕ → Type 0 where
  not_there : procedure_named procedure theory.procedures ≡ None
      → WpVerdict procedure theory status.BadWords bad_words_line
  is_there : (f : ProcedureOf Named) {s : Status} {output : List ℕ}
      → procedure_named procedure theory.procedures ≡ Some f
      → PreconditionAnswer theory f s output → WpVerdict procedure theory s output

-- and on bytes
abbrev pub WpAnswer : Name → List ℕ → Status → List ℕ → Type 0
WpAnswer procedure bytes = FileAnswer (WpVerdict procedure) bytes

-- RUN
-- the answer of an outcome; the last never comes, since the next pick is free
abbrev pub outcome_answer : List ProgVar → Outcome → Option Answer
outcome_answer results (ends steps values trees) =
    Some (status.Done, ended_lines steps results values trees)
outcome_answer results (has_fault kind steps command) =
    Some (status.Faulted, fault_line kind steps command)
outcome_answer results (spends steps config) = Some (status.FuelSpent, spent_line steps)
outcome_answer results (passes_limit kind) = Some (limit_answer kind)
outcome_answer results no_pick = None

-- the outcome of the procedure on these values and this document within the fuel
abbrev pub outcome_on : Theory → ProcedureOf Named → List Value → ℕ → Trees → Outcome
outcome_on theory f values fuel document =
    outcome standard_limits (procedures_of theory) f.results fuel 0 (start f values document)

-- the changes of the first steps of that run
abbrev pub changes_on : Theory → ProcedureOf Named → List Value → Trees → ℕ → List Change
changes_on theory f values document steps =
    changes (procedures_of theory) steps 0 (start f values document)

-- why nothing is run on a document: a number out of range, one that repeats, too many nodes
abbrev pub range_refusal : Trees → Option Answer
range_refusal document =
    option_map (λ n. (status.BadDocument, range_line n)) (first_out_of_range document)

abbrev pub repeat_refusal : Trees → Option Answer
repeat_refusal document =
    option_map (λ n. (status.BadDocument, repeat_line n)) (first_repeat document)

abbrev pub size_refusal : Trees → Option Answer
size_refusal document =
    unless (nat_le (size document) standard_limits.nodes) (limit_answer limits.nodes_limit)

-- the first of these
abbrev pub refusal : Trees → Option Answer
refusal document =
    or_else (range_refusal document) (or_else (repeat_refusal document) (size_refusal document))

-- TRACE
-- the steps of an outcome that tells them
abbrev pub steps_of : Outcome → ℕ
steps_of (ends steps values trees) = steps
steps_of (has_fault kind steps command) = steps
steps_of (spends steps config) = steps
steps_of came_out = 0

-- the same answer with a line for each change before its own, and then a line for each observer,
-- which was told all of them
abbrev pub with_trace : List Listener → List Change → Answer → Answer
with_trace listeners told (s, output) = (
  s,
  lines_of (map change_text told)
      ++ (output ++ lines_of (map said_by (map (told_all told) listeners))),
)

-- the answer of an outcome with the changes of its steps; a limit stands alone
abbrev pub traced_answer : List Listener → (ℕ → List Change) → List ProgVar → Outcome
    → Option Answer
traced_answer listeners changes_in results (passes_limit kind) = Some (limit_answer kind)
traced_answer listeners changes_in results came_out =
    option_map (with_trace listeners (changes_in (steps_of came_out)))
    (outcome_answer results came_out)

-- WATCH
-- what keeps a procedure from being watched: its sort, or the first part of its requires, or else
-- of its ensures, that can't be judged by going over the nodes that are there
abbrev pub watching_refusal : ProcedureOf Named → Option Answer
watching_refusal f =
    or_else (unless (same_data_sort f.sort grove) (status.NotWatchable, not_watchable_sort_line))
    (or_else
    (option_map (λ part. (status.NotWatchable, not_watchable_requires_line part))
    (first_unwatchable f.pre))
    (option_map (λ part. (status.NotWatchable, not_watchable_ensures_line part))
    (first_unwatchable f.post)))

-- the limit that judging a formula on a grove passes
abbrev pub judging_refusal : Store → Trees → Named → Option Answer
judging_refusal store trees p =
    option_map limit_answer (watching_limit standard_limits store (size trees) p)

-- the same answer between lines
abbrev pub between : List ℕ → List ℕ → Answer → Answer
between before after (s, output) = (s, before ++ (output ++ after))

-- the answer of an outcome, after this line on requires, and before one on ensures where the run
-- ended; a limit stands alone
abbrev pub judged_answer : List ℕ → ProcedureOf Named → List Value → Outcome → Option Answer
judged_answer before f values (passes_limit kind) = Some (limit_answer kind)
judged_answer before f values (ends steps results left) =
    or_else (judging_refusal (after_store f values results) left f.post)
    (option_map
    (between before (ensures_line (is_met (after_store f values results) left f.post)))
    (outcome_answer f.results (ends steps results left)))
judged_answer before f values came_out =
    option_map (between before []) (outcome_answer f.results came_out)

-- the answer of the run on a grove, with what is judged on it before and on what it leaves
abbrev pub watched_answer : ProcedureOf Named → List Value → Trees → Outcome → Option Answer
watched_answer f values document came_out =
    or_else (watching_refusal f)
    (or_else (judging_refusal (before_store f values) document f.pre)
    (judged_answer (requires_line (is_met (before_store f values) document f.pre)) f values
    came_out))

-- IN EACH FORM
-- the answer of an outcome of a run on a grove
abbrev pub shown_answer : RunForm → List Listener → Theory → ProcedureOf Named → List Value
    → Trees → Outcome → Option Answer
shown_answer only_outcome listeners theory f values document came_out =
    outcome_answer f.results came_out
shown_answer with_changes listeners theory f values document came_out =
    traced_answer listeners (changes_on theory f values document) f.results came_out
shown_answer with_verdicts listeners theory f values document came_out =
    watched_answer f values document came_out

-- the answer of the run on a document that spells this grove, where these observers are told what
-- it changes
abbrev pub grove_answer : RunForm → List Listener → Theory → ProcedureOf Named → List Value → ℕ
    → Trees → Option Answer
grove_answer form listeners theory f values fuel document =
    or_else (refusal document)
    (shown_answer form listeners theory f values document
    (outcome_on theory f values fuel document))

-- answers of runs on a document that spells a grove
abbrev pub GroveAnswers : Type 0
GroveAnswers = Theory → ProcedureOf Named → List Value → ℕ → Trees → Option Answer

-- the answer of the run on a document with these bytes, where this is that on a grove
pub data DocumentAnswer (on_grove : GroveAnswers) (theory : Theory) (f : ProcedureOf Named)
    (values : List Value) (fuel : ℕ) (bytes : List ℕ) : Status → List ℕ → Type 0 where
  no_document : {s : Status} {output : List ℕ}
      → Unread SpellsGrove standard_limits.document_nesting bad_document_text_line bytes s output
      → DocumentAnswer on_grove theory f values fuel bytes s output
  is_document : (document : Trees) {s : Status} {output : List ℕ}
      → limit_passed standard_limits.document_nesting bytes ≡ None
      → SpellsGrove document (lexemes_of bytes)
      → on_grove theory f values fuel document ≡ Some (s, output)
      → DocumentAnswer on_grove theory f values fuel bytes s output

-- the file with these bytes has the procedure, and the arguments read
abbrev pub IsCalled : List ℕ → List ℕ → List (List ℕ) → Type 0
IsCalled bytes procedure arguments =
    (theory : Theory) × IsFile bytes theory × (f : ProcedureOf Named) × (values : List Value)
    × (called theory procedure arguments ≡ Some (f, values))

-- it has not
abbrev pub NotCalled : List ℕ → List ℕ → List (List ℕ) → Type 0
NotCalled bytes procedure arguments =
    (theory : Theory) × IsFile bytes theory × (called theory procedure arguments ≡ None)

-- the answer of a run on a file with these bytes, and on a document as far as it is told, where
-- this is that on a grove
pub data RunAnswer (on_grove : GroveAnswers) (document : Option (List ℕ))
    (bytes procedure : List ℕ) (fuel : ℕ) (arguments : List (List ℕ))
    : Status → List ℕ → Type 0 where
  not_run : {s : Status} {output : List ℕ} → NoFile bytes s output
      → RunAnswer on_grove document bytes procedure fuel arguments s output
  not_called : NotCalled bytes procedure arguments
      → RunAnswer on_grove document bytes procedure fuel arguments status.BadWords bad_words_line
  is_called : (theory : Theory) (f : ProcedureOf Named) (values : List Value) (read : List ℕ)
      {s : Status} {output : List ℕ} → IsFile bytes theory
      → called theory procedure arguments ≡ Some (f, values) → document ≡ Some read
      → DocumentAnswer on_grove theory f values fuel read s output
      → RunAnswer on_grove document bytes procedure fuel arguments s output

-- THE ANSWER to a request
-- the books, as far as the library tells them
abbrev pub Books : Type 0
Books = List ℕ → Option (List ℕ)

-- where the books that the request reads are told, these fillers fill gaps and these observers are
-- told what a traced run changes
pub data IsAnswer (voices : List Voice) (listeners : List Listener) (books : Books)
    : Option Request → Status → List ℕ → Type 0 where
  bad_words : IsAnswer voices listeners books None status.BadWords bad_words_line
  checked : (file bytes : List ℕ) {s : Status} {output : List ℕ} → books file ≡ Some bytes
      → CheckAnswer bytes s output → IsAnswer voices listeners books (Some (check file)) s output
  filled : (file bytes : List ℕ) {s : Status} {output : List ℕ} → books file ≡ Some bytes
      → FillAnswer voices bytes s output
      → IsAnswer voices listeners books (Some (fill file)) s output
  preconditioned : (file procedure bytes : List ℕ) {s : Status} {output : List ℕ}
      → books file ≡ Some bytes → WpAnswer procedure bytes s output
      → IsAnswer voices listeners books (Some (wp file procedure)) s output
  ran : (form : RunForm) (file procedure document : List ℕ) (fuel : ℕ) (arguments : List (List ℕ))
      (bytes : List ℕ) {s : Status} {output : List ℕ} → books file ≡ Some bytes
      → RunAnswer (grove_answer form listeners) (books document) bytes procedure fuel arguments s
      output
      → IsAnswer voices listeners books (Some (run form file procedure document fuel arguments)) s
      output
  made : (n : ℕ) → IsAnswer voices listeners books (Some (make n)) status.Done (made_text n)
  tried : (n : ℕ)
      → IsAnswer voices listeners books (Some (trial n)) status.Done
      (line (accepted_text n (8 * n)))

-- the book of this name is told
abbrev pub IsToldBook : Books → List ℕ → Type 0
IsToldBook books name = (bytes : List ℕ) × (books name ≡ Some bytes)

-- the books that a request reads are told: for a run the document only where it comes to that
abbrev pub IsTold : Option Request → Books → Type 0
IsTold None books = Unit
IsTold (Some (check file)) books = IsToldBook books file
IsTold (Some (fill file)) books = IsToldBook books file
IsTold (Some (wp file procedure)) books = IsToldBook books file
IsTold (Some (run form file procedure document fuel arguments)) books =
    (bytes : List ℕ) × (books file ≡ Some bytes)
    × (IsCalled bytes procedure arguments → IsToldBook books document)
IsTold (Some (make n)) books = Unit
IsTold (Some (trial n)) books = Unit
