-- What a run answers, from what its file and its document come to.
use Rattle.std.proofs.Common.{◌≡◌, ℕ, List, Option, Some, None, refl, map, subst, slice_get, Result, Ok, Err, IfOk}
use Rattle.outside_io.specs.Causes.{Told}
use Rattle.model_answers.specs.Arguments.{called}
use Rattle.model_answers.specs.Output.{bad_words_line}
use Rattle.model_answers.specs.Texts.{IsFile}
use Rattle.theory_syntax.specs.Theories.{procedure_of, theory_of}
use Rattle.theory_syntax.specs.declared.theories.Procedure.{Procedure}
use Rattle.theory_syntax.specs.declared.theories.Theory.{Theory}
use Rattle.dom_terms.specs.Values.{value_seen}
use Rattle.domcheck_core.specs.Answers.{NoFile, GroveAnswers, DocumentAnswer, IsCalled, RunAnswer, not_run, not_called, is_called}
use Rattle.domcheck_core.specs.Books.{ReadFrom}
use Rattle.domcheck_core.specs.Calls.{FitsCall, IsCallOf, CallAnswer}
use Rattle.domcheck_core.specs.declared.calls.Call.{Call}
use Rattle.domcheck_core.specs.declared.status.Status.{Status}
use Rattle.domcheck_core.specs.declared.status.Status.TheVariants as status
use Rattle.domcheck_core.proofs.Fitting.{called_fits}
use Rattle.domcheck_core.proofs.Reading.{unread_book}

module _ (bytes name : List ℕ) (arguments : List (List ℕ)) where
  -- where the file comes to no call, the answer is the same whatever the document is
  abbrev pub AnswersAll : Status → List ℕ → Type 0
  AnswersAll s output =
      (on_grove : GroveAnswers) (document : Option (List ℕ)) (fuel : ℕ)
      → RunAnswer on_grove document bytes name fuel arguments s output

  pub unread : (s : Status) (output : List ℕ) → NoFile bytes s output → AnswersAll s output
  unread s output n = λ on_grove document fuel. not_run n

  pub uncalled : (theory : Theory) (s : Status) (output : List ℕ)
      → IsFile bytes (theory_of theory)
      → called (theory_of theory) name arguments ≡ None → s ≡ status.BadWords
      → output ≡ bad_words_line → AnswersAll s output
  uncalled theory s output spells h e q =
      λ on_grove document fuel. rw (e, q) (not_called (theory_of theory, spells, h))

  -- where it comes to a call
  module _ (theory : Theory) (call : Call)
      (opened : IsFile bytes (theory_of theory) × IsCallOf theory name arguments call) where
    pub fits : FitsCall theory call
    fits = record {
      well_formed = opened.0.well_formed;
      procedure = opened.1.0;
      stands = opened.1.1;
      fit = called_fits (theory_of theory) name arguments (procedure_of opened.1.0)
          (map value_seen call.values) opened.1.2;
    }

    pub calls : IsCalled bytes name arguments
    calls = (
      theory_of theory,
      opened.0,
      procedure_of opened.1.0,
      map value_seen call.values,
      opened.1.2,
    )

    pub reached : (on_grove : GroveAnswers) (fuel : ℕ) (document : List ℕ) (s : Status)
        (output : List ℕ) → CallAnswer on_grove theory call fuel document s output
        → RunAnswer on_grove (Some document) bytes name fuel arguments s output
    reached on_grove fuel document s output answer =
        is_called (theory_of theory) (procedure_of opened.1.0) (map value_seen call.values) document
        opened.0 opened.1.2 refl (answer opened.1.0 opened.1.1)

-- over books: the file and the document, as they were read
module _ (on_grove : GroveAnswers) (book : Option (List ℕ)) (name : List ℕ)
    (arguments : List (List ℕ)) (fuel : ℕ) where
  abbrev pub Replies : Option (List ℕ) → Status → List ℕ → Type 0
  Replies document s output =
      ReadFrom book (λ bytes. ReadFrom document
      (λ read. RunAnswer on_grove (Some read) bytes name fuel arguments s output))

  pub replied : (document : Option (List ℕ)) (s : Status) (output : List ℕ)
      → ReadFrom book (λ bytes. AnswersAll bytes name arguments s output)
      → Replies document s output
  replied document s output a = (
    a.0,
    unread_book (λ read. RunAnswer on_grove (Some read) a.0 name fuel arguments s output) document
        (λ read. a.1 on_grove (Some read) fuel),
    a.2,
  )

  module _ (theory : Theory) (call : Call)
      (opened : ReadFrom book (λ bytes. IsFile bytes (theory_of theory)
      × IsCallOf theory name arguments call)) where
    pub called_reply : (before between : Option (List ℕ)) → Told before (λ d. between ≡ Some d)
        → (s : Status) (output : List ℕ)
        → ReadFrom between (λ read. CallAnswer on_grove theory call fuel read s output)
        → Replies before s output
    called_reply before between kept s output a = (
      opened.0,
      (
        a.0,
        reached opened.0 name arguments theory call opened.1 on_grove fuel a.0 s output a.1,
        λ d told. a.2 d (kept d told),
      ),
      opened.2,
    )

    pub calls_told : Told book (λ b. IsCalled b name arguments)
    calls_told = λ b told.
        subst (λ (z : List ℕ). IsCalled z name arguments) (opened.2 b told)
        (calls opened.0 name arguments theory call opened.1)

-- the answer of a call, where its procedure is found behind the reply
pub of_call : {A E : Type 0} (on_grove : GroveAnswers) (theory : Theory) (call : Call) (fuel : ℕ)
    (document : List ℕ) (status_in : A → Status) (line_in : A → List ℕ) (r : Result A E)
    → ((f : Procedure) → slice_get theory.procedures call.procedure ≡ Some f
    → IfOk r (λ x. DocumentAnswer on_grove (theory_of theory) (procedure_of f)
    (map value_seen call.values) fuel document (status_in x) (line_in x)))
    → IfOk r (λ x. CallAnswer on_grove theory call fuel document (status_in x) (line_in x))
of_call on_grove theory call fuel document status_in line_in (Ok x) h = h
of_call on_grove theory call fuel document status_in line_in (Err e) h = tt
