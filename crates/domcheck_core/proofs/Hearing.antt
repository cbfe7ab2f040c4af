-- What observers hear, from what a run and the books come to.
use Rattle.std.proofs.Common.{◌≡◌, ◌∙◌, ℕ, ◌≤◌, List, [], ◌∷◌, map, take, Option, Some, None, refl, sym, ap, subst, arith, Result, Ok, Err, IfOk, true, slice_get}
use Rattle.outside_io.specs.Causes.{Told}
use Rattle.model_limits.specs.Limits.{standard_limits}
use Rattle.model_shapes.specs.Trees.{Trees}
use Rattle.model_shapes.specs.Values.{Value}
use Rattle.model_formulas.specs.Formulas.{Named}
use Rattle.model_terms.specs.Stores.{ProgVar}
use Rattle.model_commands.specs.Theories.{ProcedureOf, Theory}
use Rattle.model_documents.specs.Grammar.{SpellsGrove}
use Rattle.model_machine.specs.Changes.{Change}
use Rattle.model_machine.specs.Outcomes.{Outcome, no_pick}
use Rattle.model_text.specs.Nesting.{lexemes_of}
use Rattle.model_answers.specs.Arguments.{called}
use Rattle.model_answers.specs.Output.{bad_document_text_line}
use Rattle.model_answers.specs.Texts.{limit_passed, IsFile}
use Rattle.model_answers.specs.Words.{Request, RunForm, only_outcome, with_changes, with_verdicts, check, fill, wp, run, make, trial}
use Rattle.dom_terms.specs.declared.memory.OutOfMemory.{OutOfMemory}
use Rattle.logic_text.proofs.Exact.{at_most_one}
use Rattle.heap_runner.specs.declared.outcomes.HeapOutcome.{HeapOutcome}
use Rattle.heap_runner.specs.declared.outcomes.HeapOutcome.TheVariants as h
use Rattle.heap_tracer.specs.Traces as tracer
use Rattle.observer_lists.proofs.Heard.{told_all_first}
use Rattle.run_trace.specs.Listeners.{Listener, told_all, ToldSome}
use Rattle.domcheck_core.specs.Answers.{Answer, Books, GroveAnswers, Unread, RunAnswer, not_run, not_called, is_called, IsTold, refusal, grove_answer, traced_answer, changes_on, outcome_on}
use Rattle.domcheck_core.specs.Books.{ReadFrom}
use Rattle.theory_syntax.specs.Theories.{procedure_of, theory_of}
use Rattle.theory_syntax.specs.declared.theories.Procedure.{Procedure}
use Rattle.theory_syntax.specs.declared.theories.Theory as program
use Rattle.dom_terms.specs.Values.{value_seen}
use Rattle.domcheck_core.specs.Calls.{IsCallOf, CameOut}
use Rattle.domcheck_core.specs.declared.calls.Call.{Call}
use Rattle.domcheck_core.specs.Heard.{Course, course_of, Takes, Hears, HearsWhere, GroveRuns, DocumentRuns, FileRuns, BookRuns, Heard}
use Rattle.domcheck_core.specs.Refusals.{IfAnswer, Answers}
use Rattle.domcheck_core.specs.Replies.{status_of, end_of, HeardIn, HeardRead, HeardReply}
use Rattle.domcheck_core.specs.declared.replies.Refusal.{Refusal}
use Rattle.domcheck_core.specs.declared.replies.Refusal.TheVariants as f
use Rattle.domcheck_core.specs.declared.replies.Refused.{Refused}
use Rattle.domcheck_core.specs.declared.replies.Refused.TheVariants as r
use Rattle.domcheck_core.specs.declared.replies.Reply.{Reply}
use Rattle.domcheck_core.specs.declared.status.Status.{Status}
use Rattle.domcheck_core.specs.declared.status.Status.TheVariants as status
use Rattle.domcheck_core.proofs.Equal.{status_is, none_is, memory_is_no_fault}
use Rattle.domcheck_core.proofs.OneAnswer.{one_file, not_file, not_unread, not_both_called, one_call}
use Rattle.domcheck_core.proofs.Outcomes.{on_grove}
use Rattle.domcheck_core.proofs.Reading.{unread_book}
use Rattle.domcheck_core.proofs.Statuses.{AllOf, grove_of_called, is_of_called, speaks}

-- NOTHING IS TOLD
told_nothing : (changes : List Change) (before : List Listener) → ToldSome changes before before
told_nothing changes [] = tt
told_nothing changes (v ∷ vs) = ((0, refl), told_nothing changes vs)

module _ (Runs : Course → Type 0) (fuel : ℕ) (before : List Listener) where
  pub refused_heard : (s : Status) → ((course : Course) → Runs course → ⊥)
      → HearsWhere Runs fuel s before before
  refused_heard s none = (λ e. refl, λ course h. absurd (none course h), λ n. refl)

  pub no_memory_heard : HearsWhere Runs fuel status.OutOfMemory before before
  no_memory_heard = (
    λ e. refl,
    λ course h. (0, omega arith, told_nothing (course.changes_in 0) before),
    λ n. refl,
  )

  pub no_book_heard : HearsWhere Runs fuel status.ReadFault before before
  no_book_heard = (λ e. refl, λ course h. refl, λ n. refl)

-- in each form
module _ (form : RunForm) (Runs : Course → Type 0) (fuel : ℕ) (before : List Listener) where
  pub refused_in : (s : Status) → ((course : Course) → Runs course → ⊥)
      → HeardIn form Runs fuel s before before
  refused_in s none = by_form form
    where
      by_form : (x : RunForm) → HeardIn x Runs fuel s before before
      by_form only_outcome = refl
      by_form with_verdicts = refl
      by_form with_changes = refused_heard Runs fuel before s none

  pub gave_up_in : (e : Refusal) → HeardIn form Runs fuel (end_of (Err e)) before before
  gave_up_in e = by_form form e
    where
      by_form : (x : RunForm) (y : Refusal) → HeardIn x Runs fuel (end_of (Err y)) before before
      by_form only_outcome y = refl
      by_form with_verdicts y = refl
      by_form with_changes f.OutOfMemory = no_memory_heard Runs fuel before
      by_form with_changes f.ReadFault = no_book_heard Runs fuel before

  pub gave_up_as : (result : Result Reply Refusal) (e : Refusal) → result ≡ Err e
      → HeardIn form Runs fuel (end_of result) before before
  gave_up_as result e is =
      subst (λ z. HeardIn form Runs fuel (end_of z) before before) (sym is) (gave_up_in e)

  -- what is refused
  pub unread_in : (why : Refused) (result : Result Reply OutOfMemory)
      → IfAnswer why (λ s o. (course : Course) → Runs course → ⊥)
      → IfOk result (λ x. Answers why (λ s o. (x.status ≡ s) × (x.output ≡ o)))
      → HeardIn form Runs fuel (status_of result) before before
  unread_in (r.Answer s report) result none said = refused_in (status_of result) none
  unread_in r.OutOfMemory (Ok x) none said = absurd said
  unread_in r.OutOfMemory (Err e) none said = gave_up_in f.OutOfMemory

-- the same runs are heard alike
pub heard_along : (form : RunForm) (P Q : Course → Type 0) (fuel : ℕ) (s : Status)
    (before after : List Listener) → ((course : Course) → P course → Q course)
    → ((course : Course) → Q course → P course) → HeardIn form P fuel s before after
    → HeardIn form Q fuel s before after
heard_along only_outcome P Q fuel s before after to back heard = heard
heard_along with_verdicts P Q fuel s before after to back heard = heard
heard_along with_changes P Q fuel s before after to back heard = (
  heard.0,
  λ course q. heard.1 course (back course q),
  λ none. heard.2 (λ course p. none course (to course p)),
)

-- WHAT A RUN TELLS
module _ (course : Course) (fuel : ℕ) (trees : Trees) (changes : List Change)
    (before after : List Listener) (results : List ProgVar) where
  -- with all of the steps' changes
  all_heard : (steps : ℕ) (o : Outcome) → steps ≤ fuel
      → course.comes fuel ≡ o → Takes course.comes o steps → course.changes_in steps ≡ changes
      → after ≡ map (told_all changes) before
      → (steps : ℕ) × (steps ≤ fuel) × Takes course.comes (course.comes fuel) steps
      × (after ≡ map (told_all (course.changes_in steps)) before)
  all_heard steps o le comes takes tells heard = (
    steps,
    le,
    subst (λ z. Takes course.comes z steps) (sym comes) takes,
    heard ∙ ap (λ cs. map (told_all cs) before) (sym tells),
  )

  -- where there is no memory for the answer
  some_heard : (steps : ℕ) → steps ≤ fuel → course.changes_in steps ≡ changes
      → after ≡ map (told_all changes) before → Hears course fuel status.OutOfMemory before after
  some_heard steps le tells heard = (
    steps,
    le,
    subst (λ cs. ToldSome cs before after) (sym tells) (told_all_first changes before after heard),
  )

  abbrev pub AnswersAll : HeapOutcome → Result Reply OutOfMemory → Type 0
  AnswersAll outcome result =
      (o : Outcome) → CameOut outcome trees o
      → IfOk result (λ x. traced_answer before course.changes_in results o
      ≡ Some (x.status, x.output))

  pub run_heard : (outcome : HeapOutcome) (result : Result Reply OutOfMemory)
      → CameOut outcome trees (course.comes fuel)
      → tracer.Traces course.comes course.changes_in fuel outcome trees changes
      → tracer.Hears outcome changes before after → AnswersAll outcome result
      → Hears course fuel (status_of result) before after
  run_heard h.OutOfMemory (Ok x) came traces heard says =
      absurd (none_is (x.status, x.output) (says no_pick tt))
  run_heard h.OutOfMemory (Err e) came traces heard says =
      (traces.0, traces.1, subst (λ cs. ToldSome cs before after) (sym traces.3) heard)
  run_heard (h.Ended taken values) (Err e) came traces heard says =
      some_heard traces.0 traces.1 traces.3 heard
  run_heard (h.Fault kind taken command) (Err e) came traces heard says =
      some_heard traces.0 traces.1 traces.3 heard
  run_heard (h.Spent taken) (Err e) came traces heard says =
      some_heard traces.0 traces.1 traces.3 heard
  run_heard (h.Limit kind) (Err e) came traces heard says =
      some_heard traces.0 traces.1 traces.3 heard
  run_heard (h.Ended taken values) (Ok x) came traces heard says =
      let answer = subst (λ z. traced_answer before course.changes_in results z
      ≡ Some (x.status, x.output)) came.1 (says (course.comes fuel) came) in
      subst (λ z. Hears course fuel z before after) (status_is _ x.status x.output answer)
      (all_heard traces.0 _ traces.1 came.1 traces.2
      traces.3 heard)
  run_heard (h.Fault kind taken command) (Ok x) came traces heard says =
      let answer = subst (λ z. traced_answer before course.changes_in results z
      ≡ Some (x.status, x.output)) came (says (course.comes fuel) came) in
      subst (λ z. Hears course fuel z before after) (status_is _ x.status x.output answer)
      (all_heard traces.0 _ traces.1 came traces.2
      traces.3 heard)
  run_heard (h.Spent taken) (Ok x) came traces heard says =
      let answer = subst (λ z. traced_answer before course.changes_in results z
      ≡ Some (x.status, x.output)) came.1 (says (course.comes fuel) came) in
      subst (λ z. Hears course fuel z before after) (status_is _ x.status x.output answer)
      (all_heard traces.0 _ traces.1 came.1 traces.2
      traces.3 heard)
  run_heard (h.Limit kind) (Ok x) came traces heard says =
      let answer = subst (λ z. traced_answer before course.changes_in results z
      ≡ Some (x.status, x.output)) came (says (course.comes fuel) came) in
      subst (λ z. Hears course fuel z before after) (status_is _ x.status x.output answer)
      (all_heard traces.0 _ traces.1 came traces.2
      traces.3 heard)

-- an answer on a grove isn't a fault of the library
no_read_fault : (form : RunForm) (listeners : List Listener) (theory : Theory)
    (f : ProcedureOf Named) (values : List Value) (fuel : ℕ) (document : Trees)
    (result : Result Reply OutOfMemory)
    → IfOk result (λ x. grove_answer form listeners theory f values fuel document
    ≡ Some (x.status, x.output))
    → status_of result ≡ status.ReadFault → ⊥
no_read_fault form listeners theory f values fuel document (Ok x) answer e =
    none (subst (λ z. is_of_called form z ≡ true) e
    (subst (AllOf (λ z. is_of_called form z ≡ true)) answer
    (grove_of_called form listeners theory f values fuel document)))
  where
    none : is_of_called form status.ReadFault ≡ true → ⊥
    none q = cc
no_read_fault form listeners theory f values fuel document (Err e) answer q =
    absurd (memory_is_no_fault q)

-- what is heard of the run on a grove
pub grove_heard : (theory : Theory) (f : ProcedureOf Named) (values : List Value) (fuel : ℕ)
    (document trees : Trees) (changes : List Change) (before after : List Listener)
    (results : List ProgVar) (outcome : HeapOutcome) (result : Result Reply OutOfMemory)
    → refusal document ≡ None
    → IfOk result (λ x. traced_answer before (changes_on theory f values document) f.results
    (outcome_on theory f values fuel document) ≡ Some (x.status, x.output))
    → CameOut outcome trees ((course_of theory f values document).comes fuel)
    → tracer.Traces (course_of theory f values document).comes
    (course_of theory f values document).changes_in fuel outcome trees changes
    → tracer.Hears outcome changes before after
    → AnswersAll (course_of theory f values document) fuel trees changes before after results
    outcome result
    → HearsWhere (GroveRuns theory f values document) fuel (status_of result) before after
grove_heard theory f values fuel document trees changes before after results outcome result passes
    answer came traces heard says =
    let here = course_of theory f values document in (
      λ e. absurd (no_read_fault with_changes before theory f values fuel document result
          (on_grove with_changes before theory f values fuel document (λ r. (r.status, r.output))
          result passes answer) e),
      λ course runs.
          subst (λ c. Hears c fuel (status_of result) before after) (sym runs.1)
          (run_heard here fuel trees changes before after results outcome result came traces heard
          says),
      λ none. absurd (none here (passes, refl)),
    )

-- WHICH RUN it is
module _ (theory : Theory) (f : ProcedureOf Named) (values : List Value) where
  pub refused_grove : (document : Trees) (s : Status) (o : List ℕ)
      → refusal document ≡ Some (s, o) → (course : Course)
      → GroveRuns theory f values document course → ⊥
  refused_grove document s o e course h = none_is (s, o) (sym h.0 ∙ e)

  -- on a document
  pub spelled_run : (bytes : List ℕ) (document : Trees)
      → limit_passed standard_limits.document_nesting bytes ≡ None
      → SpellsGrove document (lexemes_of bytes) → (course : Course)
      → GroveRuns theory f values document course → DocumentRuns theory f values bytes course
  spelled_run bytes document reads spelled course h = (reads, document, spelled, h)

  pub run_spelled : (bytes : List ℕ) (document : Trees) → SpellsGrove document (lexemes_of bytes)
      → (course : Course) → DocumentRuns theory f values bytes course
      → GroveRuns theory f values document course
  run_spelled bytes document spelled course h =
      subst (λ z. GroveRuns theory f values z course)
      (at_most_one (lexemes_of bytes) h.1 document h.2 spelled) h.3

  pub unread_run : (bytes : List ℕ) (s : Status) (o : List ℕ)
      → Unread SpellsGrove standard_limits.document_nesting bad_document_text_line bytes s o
      → (course : Course) → DocumentRuns theory f values bytes course → ⊥
  unread_run bytes s o a course h =
      not_unread SpellsGrove standard_limits.document_nesting bad_document_text_line bytes s o h.1
      h.0 h.2 a

module _ (bytes procedure : List ℕ) (arguments : List (List ℕ)) where
  -- of a file
  module _ (theory : Theory) (f : ProcedureOf Named) (values : List Value)
      (file : IsFile bytes theory) (calls : called theory procedure arguments ≡ Some (f, values))
      (read : List ℕ) (course : Course) where
    pub called_run : DocumentRuns theory f values read course
        → FileRuns bytes procedure arguments read course
    called_run h = (theory, file, f, values, calls, h)

    pub run_called : FileRuns bytes procedure arguments read course
        → DocumentRuns theory f values read course
    run_called h =
        let found : Some (h.2, h.3) ≡ Some (f, values) =
        sym h.4 ∙ one_call bytes procedure arguments h.0 theory h.1 file ∙ calls in
        let pair : (h.2, h.3) ≡ (f, values) = cc in
        subst (λ (z : Theory). DocumentRuns z f values read course)
        (one_file bytes h.0 theory h.1 file)
        (subst (λ (z : ProcedureOf Named × List Value). DocumentRuns h.0 z.0 z.1 read course) pair
        h.5)

  -- none where it is refused
  pub uncalled_run : (on_grove : GroveAnswers) (fuel : ℕ) (s : Status) (o : List ℕ)
      → RunAnswer on_grove None bytes procedure fuel arguments s o → (read : List ℕ)
      → (course : Course) → FileRuns bytes procedure arguments read course → ⊥
  uncalled_run on_grove fuel s o (not_run n) read course h = not_file bytes s o h.0 h.1 n
  uncalled_run on_grove fuel s o (not_called n) read course h =
      not_both_called bytes procedure arguments (h.0, h.1, h.2, h.3, h.4) n
  uncalled_run on_grove fuel s o (is_called t g us d e c found a) read course h = absurd cc

-- over books
module _ (books : Books) (file procedure : List ℕ) (arguments : List (List ℕ))
    (document : List ℕ) (fuel : ℕ) (before after : List Listener) where
  pub told_heard : (s : Status)
      → HeardRead with_changes books file procedure arguments document fuel s before after
      → Heard (Some (run with_changes file procedure document fuel arguments)) books s before after
  told_heard s h = (
    h.1.1.0,
    λ told.
        let bytes_are = h.2 in
        let read_is = h.1.2 in (
          h.1.1.0,
          λ course went.
              h.1.1.1 course
              (subst (λ z. FileRuns z procedure arguments h.1.0 course)
              (sym (bytes_are went.0 went.1))
              (subst (λ z. FileRuns went.0 procedure arguments z course)
              (sym (read_is went.2 went.3)) went.4)),
          λ none. h.1.1.2 (λ course went.
              let there : h.0 ≡ told.0 = bytes_are told.0 told.1 in
              let here = subst (λ z. FileRuns z procedure arguments h.1.0 course) there went in
              let known = told.2 (here.0, here.1, here.2, here.3, here.4) in
              none course (
                told.0,
                told.1,
                known.0,
                known.1,
                subst (λ z. FileRuns told.0 procedure arguments z course)
                    (read_is known.0 known.1) here,
              )),
        ),
  )

-- a request
pub reply_heard : (r : Option Request) (books : Books) (s : Status) (before after : List Listener)
    → HeardReply r books s before after → Heard r books s before after
reply_heard None books s before after h = h
reply_heard (Some (check file)) books s before after h = h
reply_heard (Some (fill file)) books s before after h = h
reply_heard (Some (wp file procedure)) books s before after h = h
reply_heard (Some (make n)) books s before after h = h
reply_heard (Some (trial n)) books s before after h = h
reply_heard (Some (run only_outcome file procedure document fuel arguments)) books s before after
    h = h.1.1
reply_heard (Some (run with_verdicts file procedure document fuel arguments)) books s before after
    h = h.1.1
reply_heard (Some (run with_changes file procedure document fuel arguments)) books s before after
    h = told_heard books file procedure arguments document fuel before after s h

-- where the call gives up before any run
pub gave_up_read : (form : RunForm) (books : Books) (file procedure : List ℕ)
    (arguments : List (List ℕ)) (document : List ℕ) (fuel : ℕ) (before : List Listener)
    (e : Refusal)
    → HeardRead form books file procedure arguments document fuel (end_of (Err e)) before before
gave_up_read form books file procedure arguments document fuel before e =
    let Gives = λ (bytes read : List ℕ). HeardIn form (FileRuns bytes procedure arguments read) fuel
    (end_of (Err e)) before before in
    unread_book (λ bytes. ReadFrom (books document) (Gives bytes)) (books file)
    (λ bytes. unread_book (Gives bytes) (books document)
    (λ read. gave_up_in form (FileRuns bytes procedure arguments read) fuel before e))

pub gave_up_read_as : (form : RunForm) (books : Books) (file procedure : List ℕ)
    (arguments : List (List ℕ)) (document : List ℕ) (fuel : ℕ) (before : List Listener)
    (result : Result Reply Refusal) (e : Refusal) → result ≡ Err e
    → HeardRead form books file procedure arguments document fuel (end_of result) before before
gave_up_read_as form books file procedure arguments document fuel before result e is =
    subst (λ z. HeardRead form books file procedure arguments document fuel (end_of z) before
    before) (sym is)
    (gave_up_read form books file procedure arguments document fuel before e)

pub gave_up_heard : (r : Option Request) (books : Books) (before : List Listener) (e : Refusal)
    → HeardReply r books (end_of (Err e)) before before
gave_up_heard None books before e = refl
gave_up_heard (Some (check file)) books before e = refl
gave_up_heard (Some (fill file)) books before e = refl
gave_up_heard (Some (wp file procedure)) books before e = refl
gave_up_heard (Some (make n)) books before e = refl
gave_up_heard (Some (trial n)) books before e = refl
gave_up_heard (Some (run form file procedure document fuel arguments)) books before e =
    gave_up_read form books file procedure arguments document fuel before e

-- where the file comes to no call
pub answered_read : (form : RunForm) (books : Books) (file procedure : List ℕ)
    (arguments : List (List ℕ)) (document : List ℕ) (fuel : ℕ) (before : List Listener)
    (reply : Reply)
    → ReadFrom (books file) (λ bytes. (on_grove : GroveAnswers) (read : Option (List ℕ)) (most : ℕ)
    → RunAnswer on_grove read bytes procedure most arguments reply.status reply.output)
    → HeardRead form books file procedure arguments document fuel reply.status before before
answered_read form books file procedure arguments document fuel before reply opened = (
  opened.0,
  unread_book (λ read. HeardIn form (FileRuns opened.0 procedure arguments read) fuel reply.status
      before before) (books document) (λ read.
      refused_in form (FileRuns opened.0 procedure arguments read) fuel before reply.status
      (uncalled_run opened.0 procedure arguments (λ t f vs n d. None) fuel reply.status reply.output
      (opened.1 (λ t f vs n d. None) None fuel) read)),
  opened.2,
)

-- and where it comes to one
pub called_read : (form : RunForm) (books : Books) (file procedure : List ℕ)
    (arguments : List (List ℕ)) (document : List ℕ) (fuel : ℕ) (s : Status)
    (before after : List Listener) (theory : program.Theory) (call : Call)
    → ReadFrom (books file) (λ bytes. IsFile bytes (theory_of theory)
    × IsCallOf theory procedure arguments call)
    → (between : Option (List ℕ)) → Told (books document) (λ d. between ≡ Some d)
    → ((p : Procedure) → slice_get theory.procedures call.procedure ≡ Some p
    → ReadFrom between (λ read. HeardIn form (DocumentRuns (theory_of theory) (procedure_of p)
    (map value_seen call.values) read) fuel s before after))
    → HeardRead form books file procedure arguments document fuel s before after
called_read form books file procedure arguments document fuel s before after theory call opened
    between kept heard =
    let p = opened.1.1.0 in
    let h = heard p opened.1.1.1 in
    let values = map value_seen call.values in (
      opened.0,
      (
        h.0,
        heard_along form (DocumentRuns (theory_of theory) (procedure_of p) values h.0)
            (FileRuns opened.0 procedure arguments h.0) fuel s before after
            (called_run opened.0 procedure arguments (theory_of theory) (procedure_of p) values
            opened.1.0 opened.1.1.2 h.0)
            (run_called opened.0 procedure arguments (theory_of theory) (procedure_of p) values
            opened.1.0 opened.1.1.2 h.0) h.1,
        λ d told. h.2 d (kept d told),
      ),
      opened.2,
    )

-- A FAULT OF THE SINK comes after the run
hears_written : (course : Course) (fuel : ℕ) (s : Status) (before after : List Listener)
    → speaks s ≡ true → Hears course fuel s before after
    → Hears course fuel status.WriteFault before after
hears_written course fuel status.Done before after e h = h
hears_written course fuel status.StepFails before after e h = h
hears_written course fuel status.BadWords before after e h = h
hears_written course fuel status.BadText before after e h = h
hears_written course fuel status.BadFile before after e h = h
hears_written course fuel status.BadDocument before after e h = h
hears_written course fuel status.Faulted before after e h = h
hears_written course fuel status.FuelSpent before after e h = h
hears_written course fuel (status.Limit kind) before after e h = h
hears_written course fuel status.GapLeft before after e h = h
hears_written course fuel status.OutOfMemory before after e h = absurd cc
hears_written course fuel status.ReadFault before after e h = absurd cc
hears_written course fuel status.WriteFault before after e h = h
hears_written course fuel status.NotStraight before after e h = h
hears_written course fuel status.NotWatchable before after e h = h

module _ (books : Books) (s : Status) (before after : List Listener) (e : speaks s ≡ true) where
  traced_written : (file procedure document : List ℕ) (fuel : ℕ) (arguments : List (List ℕ))
      → Heard (Some (run with_changes file procedure document fuel arguments)) books s before after
      → Heard (Some (run with_changes file procedure document fuel arguments)) books
      status.WriteFault before after
  traced_written file procedure document fuel arguments h = (
    λ q. absurd cc,
    λ told. (
      λ q. absurd cc,
      λ course went. hears_written course fuel s before after e ((h.1 told).1 course went),
      (h.1 told).2,
    ),
  )

  pub written_heard : (r : Option Request) → Heard r books s before after
      → Heard r books status.WriteFault before after
  written_heard None h = h
  written_heard (Some (check file)) h = h
  written_heard (Some (fill file)) h = h
  written_heard (Some (wp file procedure)) h = h
  written_heard (Some (make n)) h = h
  written_heard (Some (trial n)) h = h
  written_heard (Some (run only_outcome file procedure document fuel arguments)) h = h
  written_heard (Some (run with_verdicts file procedure document fuel arguments)) h = h
  written_heard (Some (run with_changes file procedure document fuel arguments)) h =
      traced_written file procedure document fuel arguments h
