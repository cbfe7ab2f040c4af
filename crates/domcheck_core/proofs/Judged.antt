-- What follows from an answer: the clauses of the calls.
use Rattle.std.proofs.Common.{◌≡◌, ◌∙◌, inl, ℕ, ◌+◌, ◌≤◌, ◌<◌, ◌^◌, true, List, Option, Some, None, option_map, refl, sym, ap, subst, length, Result, Ok, Err, IfOk, arith}
use Rattle.model_shapes.specs.Values.{Name}
use Rattle.model_formulas.specs.Formulas.{Named}
use Rattle.model_commands.specs.Theories.{ProcedureOf, Theory, procedures_of}
use Rattle.model_files.proofs.WellFormedTheories.{well-formed-bodies}
use Rattle.model_weakest.specs.Written.{new_sorts, new_variables, written}
use Rattle.weakest_laws.proofs.WrittenExact.{written-exact}
use Rattle.dom_terms.specs.declared.limits.LimitKind as own
use Rattle.outside_io.specs.Causes.{Told}
use Rattle.triple_laws.proofs.Theories.{accepted_theories_hold}
use Rattle.std.specs.Str.{IsUtf8}
use Rattle.rule_table.specs.Accepted.{Fault}
use Rattle.model_filling.specs.Offers.{Voice}
use Rattle.model_filling.specs.Filled.{filled_limit}
use Rattle.model_grammar.specs.TheoryWriting.{theory_lines}
use Rattle.logic_text.proofs.Utf8Lemmas.{lines_literals}
use Rattle.filled_theory_laws.proofs.FileTexts.{filled-file}
use Rattle.model_limits.specs.Limits.{standard_limits}
use Rattle.model_answers.specs.Words.{Request, RunForm, check, fill, wp, run, make, trial}
use Rattle.run_trace.specs.Listeners.{Listener}
use Rattle.model_text.specs.Lexemes.{Lexeme}
use Rattle.model_limits.specs.Limits.{LimitKind, file_limit}
use Rattle.model_answers.specs.Texts.{IsFile}
use Rattle.domcheck_core.specs.Answers.{Books, Answer, limit_answer, Unread, over_limit, NoFile, no_file, judged, PlaceAnswer, CheckVerdict, says_yes, says_no, CheckAnswer, FillVerdict, says_filled, fills_too_much, cannot_fill, FillAnswer, PreconditionAnswer, has_none, has_one, WpVerdict, not_there, is_there, WpAnswer, grove_answer, GroveAnswers, DocumentAnswer, IsCalled, NotCalled, RunAnswer, not_run, not_called, is_called, IsAnswer, checked, filled, preconditioned, ran, IsToldBook, IsTold}
use Rattle.domcheck_core.specs.Books.{IsReply}
use Rattle.domcheck_core.specs.Clauses.{OfFile, IsSoundFile, OfGaps, IsFilledFile, TookFilled, OfBody, IsPrecondition, TookPrecondition, NotThere, ExactlyWhere, BadWordsExactly, Says, IsAnswered, Wrote}
use Rattle.outside_io.specs.Pieces.{Took}
use Rattle.domcheck_core.specs.Preconditions.{StandsInFile}
use Rattle.domcheck_core.proofs.Tested.{large_text}
use Rattle.domcheck_core.proofs.Weakest.{named-post, sorted-body, few-numbers, straight-body}
use Rattle.domcheck_core.proofs.OneAnswer.{not_file, not_both_there, not_both_called, told_of, one_answer}
use Rattle.domcheck_core.proofs.Statuses.{document_status, AllOf, all_no_file, all_places, all_limits, all_bodies, is_of_called, speaks, reply_speaks}
use Rattle.domcheck_core.specs.declared.status.Status.{Status}
use Rattle.domcheck_core.specs.declared.status.Status.TheVariants as status

-- more bytes than a file or a document may have are not read
pub too_large : {A : Type 0} (Spells : A → List Lexeme → Type 0) (most : ℕ) (bad_line : ℕ → List ℕ)
    (bytes : List ℕ) (s : Status) (output : List ℕ) → standard_limits.file_bytes < length bytes
    → limit_answer file_limit ≡ (s, output) → Unread Spells most bad_line bytes s output
too_large Spells most bad_line bytes s output long e =
    over_limit (ap (λ (z : Option LimitKind). option_map limit_answer z)
    (large_text most bytes long) ∙ ap (λ (z : Answer). Some z) e)

-- the status is no yes
abbrev IsNoYes : Status → Type 0
IsNoYes s = s ≡ status.Done → ⊥

no_yes_past : (kind : own.LimitKind) → IsNoYes (status.Limit kind)
no_yes_past kind e = cc

no_yes_ill : IsNoYes status.BadFile
no_yes_ill e = cc

no_yes_bad : IsNoYes status.BadText
no_yes_bad e = cc

no_yes_left : IsNoYes status.GapLeft
no_yes_left e = cc

no_yes_fails : IsNoYes status.StepFails
no_yes_fails e = cc

no_yes_bent : IsNoYes status.NotStraight
no_yes_bent e = cc

no_yes_file : (bytes : List ℕ) (s : Status) (output : List ℕ) → NoFile bytes s output → IsNoYes s
no_yes_file bytes s output a =
    all_no_file IsNoYes no_yes_past no_yes_ill bytes s output no_yes_bad a

no_yes_place : (theory : Theory) (procedure place : ℕ) (fault : Fault) (s : Status)
    (output : List ℕ) → PlaceAnswer theory procedure place fault s output → IsNoYes s
no_yes_place theory procedure place fault s output a =
    all_places IsNoYes theory procedure place fault s output no_yes_left no_yes_fails a

-- a yes is a proof
sound_verdict : (bytes : List ℕ) (theory : Theory) (s : Status) (output : List ℕ)
    → IsFile bytes theory → CheckVerdict theory s output → s ≡ status.Done → IsSoundFile bytes
sound_verdict bytes t s output file (says_yes x) q =
    (t, file, accepted_theories_hold t file.well_formed x)
sound_verdict bytes t s output file (says_no bad first a) q =
    absurd (no_yes_place t bad.procedure bad.step bad.fault s output a q)

pub sound : (bytes : List ℕ) (s : Status) (output : List ℕ)
    → CheckAnswer bytes s output → s ≡ status.Done → IsSoundFile bytes
sound bytes s output (no_file a) e = absurd (no_yes_file bytes s output a e)
sound bytes s output (judged t file v) e = sound_verdict bytes t s output file v e

-- WHAT IS FILLED, written as UTF-8, is a file of its own
module _ (voices : List Voice) (bytes : List ℕ) where
  filled_verdict : (theory : Theory) (s : Status) (output : List ℕ) → IsFile bytes theory
      → FillVerdict voices theory s output → s ≡ status.Done → IsUtf8 output
      → IsFilledFile voices bytes output
  filled_verdict theory s output file (says_filled t is within) e utf8 =
      let back = filled-file bytes theory voices t file is within
      (lines_literals (theory_lines t) utf8) in
      (theory, t, back.0, file, is, refl, back.1, back.2, back.3)
  filled_verdict theory s output file (fills_too_much t is limited) e utf8 =
      absurd (subst (AllOf IsNoYes) limited (all_limits IsNoYes no_yes_past (filled_limit t)) e)
  filled_verdict theory s output file (cannot_fill bad first a) e utf8 =
      absurd (no_yes_place theory bad.procedure bad.step bad.fault s output a e)

  pub filled_file : (s : Status) (output : List ℕ) → FillAnswer voices bytes s output
      → s ≡ status.Done → IsUtf8 output → IsFilledFile voices bytes output
  filled_file s output (no_file a) e utf8 = absurd (no_yes_file bytes s output a e)
  filled_file s output (judged t file v) e utf8 = filled_verdict t s output file v e utf8

-- WHAT IS PRINTED for a procedure is its weakest precondition
module _ (procedure : Name) (bytes : List ℕ) where
  printed_verdict : (theory : Theory) (s : Status) (output : List ℕ) → IsFile bytes theory
      → WpVerdict procedure theory s output → s ≡ status.Done
      → IsPrecondition procedure bytes output
  printed_verdict theory s output file (not_there e) q = absurd cc
  printed_verdict theory s output file (is_there f e (has_none d)) q =
      absurd (subst (AllOf IsNoYes) d (all_bodies IsNoYes no_yes_bent no_yes_past f) q)
  printed_verdict theory s output file (is_there f e (has_one names d new many)) q =
      let stands : StandsInFile theory f = record {
        bytes = bytes;
        file = file;
        name = procedure;
        there = e;
      } in
      let few : 1 + length theory.logic + length names ≤ 2 ^ 64 =
      omega (arith, many, few-numbers theory f stands) in (
        theory,
        f,
        new_variables names (new_sorts f.body),
        written names f.body f.post,
        file,
        e,
        refl,
        λ environment store proper roots shaped.
            written-exact (procedures_of theory) (well-formed-bodies theory file.well_formed) f.body
            (straight-body f d) (sorted-body theory f stands) theory.logic 1 names new few many
            f.post (named-post theory f stands) environment store proper roots shaped,
      )

  pub printed : (s : Status) (output : List ℕ) → WpAnswer procedure bytes s output
      → s ≡ status.Done → IsPrecondition procedure bytes output
  printed s output (no_file a) q = absurd (no_yes_file bytes s output a q)
  printed s output (judged t file v) q = printed_verdict t s output file v q

-- the status and the line of a reply are those of the answer
pub said : {R E : Type 0} (status_in : R → Status) (line_in : R → List ℕ)
    (Answer : Status → List ℕ → Type 0) (s : Status) (output : List ℕ) (r : Result R E)
    → Answer s output → IfOk r (λ x. status_in x ≡ s) → IfOk r (λ x. line_in x ≡ output)
    → IfOk r (λ x. Answer (status_in x) (line_in x))
said status_in line_in Answer s output (Ok x) a e f = rw (e, f) a
said status_in line_in Answer s output (Err x) a e f = tt

-- a line that is another
pub same_line : {R E : Type 0} (line_in : R → List ℕ) (a b : List ℕ) (r : Result R E) → a ≡ b
    → IfOk r (λ x. line_in x ≡ a) → IfOk r (λ x. line_in x ≡ b)
same_line line_in a b (Ok x) e h = h ∙ e
same_line line_in a b (Err x) e h = tt

-- the status isn't that of bad words
abbrev AreNoWords : Status → Type 0
AreNoWords s = s ≡ status.BadWords → ⊥

no_words_past : (kind : own.LimitKind) → AreNoWords (status.Limit kind)
no_words_past kind e = cc

no_words_ill : AreNoWords status.BadFile
no_words_ill e = cc

no_words_bad : AreNoWords status.BadText
no_words_bad e = cc

no_words_bent : AreNoWords status.NotStraight
no_words_bent e = cc

-- A REPLY, where what it needs is told
module _ (voices : List Voice) (listeners : List Listener) (books : Books) where
  -- of a run: the document that was read is the told one, where it comes to that
  told_run : (on_grove : GroveAnswers) (document bytes procedure : List ℕ) (fuel : ℕ)
      (arguments : List (List ℕ))
      (read : List ℕ) (s : Status) (output : List ℕ) → Told (books document) (λ d. read ≡ d)
      → (IsCalled bytes procedure arguments → IsToldBook books document)
      → RunAnswer on_grove (Some read) bytes procedure fuel arguments s output
      → RunAnswer on_grove (books document) bytes procedure fuel arguments s output
  told_run on_grove document bytes name fuel words read s output same needs (not_run n) = not_run n
  told_run on_grove document bytes name fuel words read s output same needs (not_called n) =
      not_called n
  told_run on_grove document bytes name fuel words read s output same needs
      (is_called t f values d spells e found answer) =
      let told = needs (t, spells, f, values, e) in
      let there : told.0 ≡ d = cc (same told.0 told.1) in
      is_called t f values told.0 spells e told.1
      (subst (λ (z : List ℕ). DocumentAnswer on_grove t f values fuel z s output)
      (sym there) answer)

  pub answer : (r : Option Request) (s : Status) (output : List ℕ)
      → IsReply voices listeners r books s output → IsTold r books
      → IsAnswer voices listeners books r s output
  answer None s output a told = a
  answer (Some (make n)) s output a told = a
  answer (Some (trial n)) s output a told = a
  answer (Some (check file)) s output a told =
      checked file told.0 told.1
      (subst (λ (z : List ℕ). CheckAnswer z s output) (a.2 told.0 told.1) a.1)
  answer (Some (fill file)) s output a told =
      filled file told.0 told.1
      (subst (λ (z : List ℕ). FillAnswer voices z s output) (a.2 told.0 told.1) a.1)
  answer (Some (wp file procedure)) s output a told =
      preconditioned file procedure told.0 told.1
      (subst (λ (z : List ℕ). WpAnswer procedure z s output) (a.2 told.0 told.1) a.1)
  answer (Some (run form file procedure document fuel arguments)) s output a told =
      let on_grove = grove_answer form listeners in
      ran form file procedure document fuel arguments told.0 told.1
      (told_run on_grove document told.0 procedure fuel arguments a.1.0 s output a.1.2 told.2
      (subst (λ (z : List ℕ). RunAnswer on_grove (Some a.1.0) z procedure fuel arguments s output)
      (a.2 told.0 told.1) a.1.1))

  pub answered : (r : Option Request) (s : Status) (output : List ℕ)
      → IsReply voices listeners r books s output → IsAnswered voices listeners r books s
  answered r s output a = λ told. inl (output, answer r s output a told)

  -- the answer of the definition, where there is one, is the one that was given
  pub same_answer : (r : Option Request) (s : Status) (output : List ℕ)
      → IsReply voices listeners r books s output
      → (before after : Option (List ℕ)) → Took before after output
      → (t : Status) (other : List ℕ) → IsAnswer voices listeners books r t other
      → Says s before after t other
  same_answer r s output a before after took t other b =
      let told = told_of voices listeners books r t other b in
      let same = one_answer voices listeners books r s output t other (answer r s output a told)
      b in
      (same.0, subst (λ (z : List ℕ). Took before after z) same.1 took)

  -- what the sink took is all of the output of the answer
  pub wrote : (r : Option Request) (s : Status) (output : List ℕ)
      → IsReply voices listeners r books s output → (before after : Option (List ℕ))
      → Took before after output
      → Wrote voices listeners r books s before after
  wrote r s output a before after took =
      by_status s (reply_speaks voices listeners r books s output a)
      (λ told. (output, answer r s output a told, took))
    where
      by_status : (t : Status) → speaks t ≡ true
          → (IsTold r books
          → (o : List ℕ) × IsAnswer voices listeners books r t o × Took before after o)
          → Wrote voices listeners r books t before after
      by_status status.Done e h = h
      by_status status.StepFails e h = h
      by_status status.BadWords e h = h
      by_status status.BadText e h = h
      by_status status.BadFile e h = h
      by_status status.BadDocument e h = h
      by_status status.Faulted e h = h
      by_status status.FuelSpent e h = h
      by_status (status.Limit kind) e h = h
      by_status status.GapLeft e h = h
      by_status status.OutOfMemory e h = absurd cc
      by_status status.ReadFault e h = absurd cc
      by_status status.WriteFault e h = absurd cc
      by_status status.NotStraight e h = h
      by_status status.NotWatchable e h = h

  -- a fact of the told bytes of a file
  pub on_file : (r : Option Request) (s : Status) (output : List ℕ) (P : List ℕ → Type 0)
      → ((bytes : List ℕ) → CheckAnswer bytes s output → P bytes)
      → IsReply voices listeners r books s output → OfFile r books P
  on_file None s output P f a = tt
  on_file (Some (make n)) s output P f a = tt
  on_file (Some (trial n)) s output P f a = tt
  on_file (Some (fill file)) s output P f a = tt
  on_file (Some (wp file procedure)) s output P f a = tt
  on_file (Some (run form file procedure document fuel arguments)) s output P f a = tt
  on_file (Some (check file)) s output P f a = λ bytes told.
      f bytes (subst (λ (z : List ℕ). CheckAnswer z s output) (a.2 bytes told) a.1)

  -- and of those of a file that is filled, where the sink took the output
  pub on_gaps : (r : Option Request) (s : Status) (output : List ℕ) (before after : Option (List ℕ))
      → IsReply voices listeners r books s output → IsUtf8 output → Took before after output
      → OfGaps r books (λ bytes. s ≡ status.Done → TookFilled voices bytes before after)
  on_gaps None s output before after a utf8 took = tt
  on_gaps (Some (make n)) s output before after a utf8 took = tt
  on_gaps (Some (trial n)) s output before after a utf8 took = tt
  on_gaps (Some (check file)) s output before after a utf8 took = tt
  on_gaps (Some (wp file procedure)) s output before after a utf8 took = tt
  on_gaps (Some (run form file procedure document fuel arguments)) s output before after a utf8
      took = tt
  on_gaps (Some (fill file)) s output before after a utf8 took = λ bytes told e. (
    output,
    filled_file voices bytes s output
        (subst (λ (z : List ℕ). FillAnswer voices z s output) (a.2 bytes told) a.1) e utf8,
    took,
  )

  -- and of those of a file whose procedure is asked for
  pub on_body : (r : Option Request) (s : Status) (output : List ℕ) (before after : Option (List ℕ))
      → IsReply voices listeners r books s output → Took before after output
      → OfBody r books
      (λ procedure bytes. s ≡ status.Done → TookPrecondition procedure bytes before after)
  on_body None s output before after a took = tt
  on_body (Some (make n)) s output before after a took = tt
  on_body (Some (trial n)) s output before after a took = tt
  on_body (Some (check file)) s output before after a took = tt
  on_body (Some (fill file)) s output before after a took = tt
  on_body (Some (run form file procedure document fuel arguments)) s output before after a took = tt
  on_body (Some (wp file procedure)) s output before after a took = λ bytes told e. (
    output,
    printed procedure bytes s output
        (subst (λ (z : List ℕ). WpAnswer procedure z s output) (a.2 bytes told) a.1) e,
    took,
  )

  -- bad words where a precondition is asked for
  no_words_printed : (theory : Theory) (f : ProcedureOf Named) (s : Status) (output : List ℕ)
      → PreconditionAnswer theory f s output → AreNoWords s
  no_words_printed theory f s output (has_none e) =
      subst (AllOf AreNoWords) e (all_bodies AreNoWords no_words_bent no_words_past f)
  no_words_printed theory f s output (has_one names e new many) = λ q. cc

  words_of_wp : (bytes procedure : List ℕ) (s : Status) (output : List ℕ)
      → WpAnswer procedure bytes s output
      → ExactlyWhere (NotThere bytes procedure) s status.BadWords
  words_of_wp bytes name s output (no_file n) = (
    λ e. absurd (all_no_file AreNoWords no_words_past no_words_ill bytes s output no_words_bad n e),
    λ c. absurd (not_file bytes s output c.0 c.1 n),
  )
  words_of_wp bytes name s output (judged t file (not_there e)) = (λ q. (t, file, e), λ c. inl refl)
  words_of_wp bytes name s output (judged t file (is_there f e a)) = (
    λ q. absurd (no_words_printed t f s output a q),
    λ c. absurd (not_both_there name bytes t c.0 f file c.1 e c.2),
  )

  -- bad words of a run
  words_of_run : (form : RunForm) (bytes procedure : List ℕ) (fuel : ℕ)
      (arguments : List (List ℕ)) (read : Option (List ℕ)) (s : Status) (output : List ℕ)
      → RunAnswer (grove_answer form listeners) read bytes procedure fuel arguments s output
      → ExactlyWhere (NotCalled bytes procedure arguments) s status.BadWords
  words_of_run form bytes name fuel words read s output (not_run n) = (
    λ e. absurd (all_no_file AreNoWords no_words_past no_words_ill bytes s output no_words_bad n e),
    λ c. absurd (not_file bytes s output c.0 c.1 n),
  )
  words_of_run form bytes name fuel words read s output (not_called n) = (λ e. n, λ c. inl refl)
  words_of_run form bytes name fuel words read s output
      (is_called t f values d spells e found answer) =
      let called : is_of_called form s ≡ true =
      document_status form listeners t f values fuel d s output answer in (
        λ q. absurd (not_bad_words (subst (λ (z : Status). is_of_called form z ≡ true) q called)),
        λ c. absurd (not_both_called bytes name words (t, spells, f, values, e) c),
      )
    where
      not_bad_words : is_of_called form status.BadWords ≡ true → ⊥
      not_bad_words h = cc

  pub bad_words_exactly : (r : Option Request) (s : Status) (output : List ℕ)
      → IsReply voices listeners r books s output → BadWordsExactly r books s
  bad_words_exactly None s output a = tt
  bad_words_exactly (Some (make n)) s output a = tt
  bad_words_exactly (Some (trial n)) s output a = tt
  bad_words_exactly (Some (check file)) s output a = tt
  bad_words_exactly (Some (fill file)) s output a = tt
  bad_words_exactly (Some (wp file procedure)) s output a =
      λ bytes told. words_of_wp bytes procedure s output
      (subst (λ (z : List ℕ). WpAnswer procedure z s output) (a.2 bytes told) a.1)
  bad_words_exactly (Some (run form file procedure document fuel arguments)) s output a =
      λ bytes told. words_of_run form bytes procedure fuel arguments (Some a.1.0) s output
      (subst (λ (z : List ℕ). RunAnswer (grove_answer form listeners) (Some a.1.0) z procedure fuel
      arguments s output) (a.2 bytes told) a.1.1)
