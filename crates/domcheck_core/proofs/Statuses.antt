-- The statuses that an answer has.
use Rattle.std.proofs.Common.{◌≡◌, ◌⊎◌, inl, inr, ℕ, Bool, true, false, List, Option, Some, None, refl, subst, lit<, option_map}
use Rattle.std.specs.Prelude.{nat_le, Contains}
use Rattle.model_shapes.specs.Sorts.{grove}
use Rattle.model_shapes.specs.Tests.{same_data_sort}
use Rattle.model_shapes.specs.Trees.{Trees}
use Rattle.model_shapes.specs.Values.{Name, Value}
use Rattle.model_formulas.specs.Formulas.{Named}
use Rattle.model_terms.specs.Stores.{ProgVar}
use Rattle.model_terms.specs.TermLimits.{or_else, unless}
use Rattle.model_commands.specs.Theories.{ProcedureOf, Theory}
use Rattle.model_machine.specs.Outcomes.{Outcome, ends, spends, passes_limit, has_fault, no_pick}
use Rattle.model_documents.specs.Numbers.{Numbered, first_out_of_range, first_repeat}
use Rattle.model_groves.specs.Sizes.{size}
use Rattle.model_limits.specs.Limits.{standard_limits}
use Rattle.model_answers.specs.Words.{Request, RunForm, only_outcome, with_changes, check, fill, wp, run, make, trial, with_verdicts}
use Rattle.run_trace.specs.Listeners.{Listener}
use Rattle.model_machine.specs.Changes.{Change}
use Rattle.model_limits.specs.Limits.{LimitKind, nodes_limit, straight_limit}
use Rattle.dom_terms.specs.declared.limits.LimitKind as own
use Rattle.model_answers.specs.Output.{range_line, repeat_line, not_straight_sort_line, not_straight_line, requires_line, ensures_line, not_watchable_sort_line, not_watchable_requires_line, not_watchable_ensures_line}
use Rattle.model_weakest.specs.Straight.{first_not_straight, is_short}
use Rattle.model_text.specs.Lexemes.{Lexeme}
use Rattle.model_files.specs.FileFaults.{FileFault, first_file_fault}
use Rattle.model_answers.specs.Texts.{limit_passed, theory_limit}
use Rattle.rule_table.specs.Accepted.{Fault}
use Rattle.model_filling.specs.Offers.{Voice}
use Rattle.model_filling.specs.Filled.{filled_limit}
use Rattle.model_watch.specs.Watchable.{first_unwatchable}
use Rattle.model_watch.specs.Watching.{is_met}
use Rattle.watch_laws.specs.WatchedStores.{before_store, after_store}
use Rattle.std.proofs.lemmas.List.Elements.{Contains-append_left}
use Rattle.domcheck_core.specs.Answers.{Books, IsAnswer, bad_words, made, tried, Answer, limit_answer, fault_answer, Unread, over_limit, spells_nothing, NoFile, unread, refused, FileAnswer, no_file, judged, PlaceAnswer, has_gap, step_fails, has_no_proof, CheckVerdict, CheckAnswer, FillAnswer, says_yes, says_no, FillVerdict, says_filled, fills_too_much, cannot_fill, precondition_refusal, PreconditionAnswer, has_none, has_one, WpVerdict, not_there, is_there, WpAnswer, outcome_answer, outcome_on, changes_on, steps_of, with_trace, traced_answer, shown_answer, range_refusal, repeat_refusal, size_refusal, refusal, grove_answer, DocumentAnswer, no_document, is_document, RunAnswer, not_run, not_called, is_called, judged_answer, watched_answer, between, judging_refusal, watching_refusal}
use Rattle.domcheck_core.specs.Clauses.{file_statuses, statuses, ReadRose, call_statuses, own_statuses, run_statuses}
use Rattle.domcheck_core.specs.Books.{IsReply}
use Rattle.domcheck_core.specs.Numbers.{status_number}
use Rattle.domcheck_core.specs.declared.status.Status.{Status}
use Rattle.domcheck_core.specs.declared.status.Status.TheVariants as status

-- REFUSALS
-- what holds of the status of each answer there is
abbrev pub AllOf : (Status → Type 0) → Option Answer → Type 0
AllOf P None = Unit
AllOf P (Some answer) = P answer.0

module _ (P : Status → Type 0) where
  pub first_of : (a b : Option Answer) → AllOf P a → AllOf P b → AllOf P (or_else a b)
  first_of None b h k = k
  first_of (Some a) b h k = h

  module _ (past : (kind : own.LimitKind) → P (status.Limit kind)) where
    pub all_limits : (limit : Option LimitKind) → AllOf P (option_map limit_answer limit)
    all_limits None = tt
    all_limits (Some kind) = past _

    all_unread : {A : Type 0} (Spells : A → List Lexeme → Type 0) (most : ℕ)
        (bad_line : ℕ → List ℕ) (bytes : List ℕ) (s : Status) (o : List ℕ) → P status.BadText
        → Unread Spells most bad_line bytes s o → P s
    all_unread Spells most bad_line bytes s o bad (over_limit e) =
        subst (AllOf P) e (all_limits (limit_passed most bytes))
    all_unread Spells most bad_line bytes s o bad (spells_nothing token e none fault) = bad

    module _ (ill : P status.BadFile) where
      all_faults : (fault : Option FileFault) → AllOf P (option_map fault_answer fault)
      all_faults None = tt
      all_faults (Some fault) = ill

      pub all_no_file : (bytes : List ℕ) (s : Status) (o : List ℕ) → P status.BadText
          → NoFile bytes s o → P s
      all_no_file bytes s o bad (unread a) = all_unread _ _ _ bytes s o bad a
      all_no_file bytes s o bad (refused t read spelled e) =
          subst (AllOf P) e (first_of (option_map fault_answer (first_file_fault t))
          (option_map limit_answer (theory_limit t)) (all_faults (first_file_fault t))
          (all_limits (theory_limit t)))

-- FILES
module _ (P : Status → Type 0) where
  pub all_places : (theory : Theory) (procedure place : ℕ) (fault : Fault) (s : Status) (o : List ℕ)
      → P status.GapLeft → P status.StepFails → PlaceAnswer theory procedure place fault s o → P s
  all_places theory procedure place fault s o left fails (has_gap f x h d) = left
  all_places theory procedure place fault s o left fails (step_fails f x name ns ts v h d r) = fails
  all_places theory procedure place fault s o left fails (has_no_proof f h) = fails

  -- what holds of the status of each answer to a file that is judged
  pub record HoldsOfFiles : Type 0 where
    pub done : P status.Done
    pub fails : P status.StepFails
    pub left : P status.GapLeft
    pub bad : P status.BadText
    pub ill : P status.BadFile
    pub past : (kind : own.LimitKind) → P (status.Limit kind)

  module _ (holds : HoldsOfFiles) where
    check_verdicts : (theory : Theory) (s : Status) (o : List ℕ) → CheckVerdict theory s o → P s
    check_verdicts theory s o (says_yes x) = holds.done
    check_verdicts theory s o (says_no bad first a) =
        all_places theory bad.procedure bad.step bad.fault s o holds.left holds.fails a

    fill_verdicts : (voices : List Voice) (theory : Theory) (s : Status) (o : List ℕ)
        → FillVerdict voices theory s o → P s
    fill_verdicts voices theory s o (says_filled t is within) = holds.done
    fill_verdicts voices theory s o (fills_too_much t is e) =
        subst (AllOf P) e (all_limits P holds.past (filled_limit t))
    fill_verdicts voices theory s o (cannot_fill bad first a) =
        all_places theory bad.procedure bad.step bad.fault s o holds.left holds.fails a

    all_answers : (Verdict : Theory → Status → List ℕ → Type 0)
        → ((theory : Theory) (s : Status) (o : List ℕ) → Verdict theory s o → P s)
        → (bytes : List ℕ) (s : Status) (o : List ℕ) → FileAnswer Verdict bytes s o → P s
    all_answers Verdict all bytes s o (no_file a) =
        all_no_file P holds.past holds.ill bytes s o holds.bad a
    all_answers Verdict all bytes s o (judged theory is v) = all theory s o v

    pub check_answers : (bytes : List ℕ) (s : Status) (o : List ℕ) → CheckAnswer bytes s o → P s
    check_answers = all_answers CheckVerdict check_verdicts

    pub fill_answers : (voices : List Voice) (bytes : List ℕ) (s : Status) (o : List ℕ)
        → FillAnswer voices bytes s o → P s
    fill_answers voices = all_answers (FillVerdict voices) (fill_verdicts voices)

-- BODIES
module _ (P : Status → Type 0) where
  all_unless : (b : Bool) (answer : Answer) → P answer.0 → AllOf P (unless b answer)
  all_unless true answer h = tt
  all_unless false answer h = h

  all_named : {A : Type 0} (s : Status) (line : A → List ℕ) (found : Option A) → P s
      → AllOf P (option_map {U = Answer} (λ a. (s, line a)) found)
  all_named s line None h = tt
  all_named s line (Some a) h = h

  -- of each that keeps a procedure from having its weakest precondition printed
  pub all_bodies : P status.NotStraight → ((kind : own.LimitKind) → P (status.Limit kind))
      → (f : ProcedureOf Named) → AllOf P (precondition_refusal f)
  all_bodies bent past f =
      first_of P
      (unless (same_data_sort f.sort grove) (status.NotStraight, not_straight_sort_line))
      (or_else (option_map (λ c. (status.NotStraight, not_straight_line c))
      (first_not_straight f.body)) (unless (is_short f.body) (limit_answer straight_limit)))
      (all_unless (same_data_sort f.sort grove)
      (status.NotStraight, not_straight_sort_line) bent)
      (first_of P
      (option_map (λ c. (status.NotStraight, not_straight_line c)) (first_not_straight f.body))
      (unless (is_short f.body) (limit_answer straight_limit))
      (all_named status.NotStraight not_straight_line (first_not_straight f.body) bent)
      (all_unless (is_short f.body) (limit_answer straight_limit) (past _)))

  -- what holds of the status of each answer to a file whose procedure is asked for
  pub record HoldsOfBodies : Type 0 where
    pub done : P status.Done
    pub words : P status.BadWords
    pub bent : P status.NotStraight
    pub bad : P status.BadText
    pub ill : P status.BadFile
    pub past : (kind : own.LimitKind) → P (status.Limit kind)

  module _ (holds : HoldsOfBodies) (procedure : Name) where
    preconditions : (theory : Theory) (f : ProcedureOf Named) (s : Status) (o : List ℕ)
        → PreconditionAnswer theory f s o → P s
    preconditions theory f s o (has_none e) =
        subst (AllOf P) e (all_bodies holds.bent holds.past f)
    preconditions theory f s o (has_one names e new many) = holds.done

    wp_verdicts : (theory : Theory) (s : Status) (o : List ℕ) → WpVerdict procedure theory s o
        → P s
    wp_verdicts theory s o (not_there e) = holds.words
    wp_verdicts theory s o (is_there f e a) = preconditions theory f s o a

    pub wp_answers : (bytes : List ℕ) (s : Status) (o : List ℕ) → WpAnswer procedure bytes s o
        → P s
    wp_answers bytes s o (no_file a) =
        all_no_file P holds.past holds.ill bytes s o holds.bad a
    wp_answers bytes s o (judged theory is v) = wp_verdicts theory s o v

-- the status is one of a run that is called, in this form
abbrev pub is_of_called : RunForm → Status → Bool
is_of_called form status.StepFails = false
is_of_called form status.BadWords = false
is_of_called form status.BadFile = false
is_of_called form status.GapLeft = false
is_of_called form status.OutOfMemory = false
is_of_called form status.ReadFault = false
is_of_called form status.WriteFault = false
is_of_called form status.NotStraight = false
is_of_called with_verdicts status.NotWatchable = true
is_of_called form status.NotWatchable = false
is_of_called form s = true

-- the status is one of a reply
abbrev pub speaks : Status → Bool
speaks status.OutOfMemory = false
speaks status.ReadFault = false
speaks status.WriteFault = false
speaks s = true

speaks_called : (form : RunForm) (s : Status) → is_of_called form s ≡ true → speaks s ≡ true
speaks_called form status.Done e = refl
speaks_called form status.StepFails e = refl
speaks_called form status.BadWords e = refl
speaks_called form status.BadText e = refl
speaks_called form status.BadFile e = refl
speaks_called form status.BadDocument e = refl
speaks_called form status.Faulted e = refl
speaks_called form status.FuelSpent e = refl
speaks_called form (status.Limit kind) e = refl
speaks_called form status.GapLeft e = refl
speaks_called form status.OutOfMemory e = e
speaks_called form status.ReadFault e = e
speaks_called form status.WriteFault e = e
speaks_called form status.NotStraight e = refl
speaks_called form status.NotWatchable e = refl

-- each answer there is has such a status
module _ (form : RunForm) where
  abbrev IsOfCalled : Status → Type 0
  IsOfCalled s = is_of_called form s ≡ true

  abbrev AllOfCalled : Option Answer → Type 0
  AllOfCalled = AllOf IsOfCalled

  refused_of_called : (line : Numbered → List ℕ) (found : Option Numbered)
      → AllOfCalled (option_map {U = Answer} (λ n. (status.BadDocument, line n)) found)
  refused_of_called line None = tt
  refused_of_called line (Some n) = refl

  unless_of_called : (b : Bool) (answer : Answer) → is_of_called form answer.0 ≡ true
      → AllOfCalled (unless b answer)
  unless_of_called true answer h = tt
  unless_of_called false answer h = h

  limit_of_called : (found : Option LimitKind) → AllOfCalled (option_map limit_answer found)
  limit_of_called None = tt
  limit_of_called (Some kind) = refl

  outcome_of_called : (results : List ProgVar) (o : Outcome)
      → AllOfCalled (outcome_answer results o)
  outcome_of_called results (ends steps values trees) = refl
  outcome_of_called results (has_fault kind steps command) = refl
  outcome_of_called results (spends steps config) = refl
  outcome_of_called results (passes_limit kind) = refl
  outcome_of_called results no_pick = tt

  traced_of_called : (listeners : List Listener) (changes_in : ℕ → List Change)
      (results : List ProgVar) (o : Outcome)
      → AllOfCalled (traced_answer listeners changes_in results o)
  traced_of_called listeners changes_in results (ends steps values trees) = refl
  traced_of_called listeners changes_in results (has_fault kind steps command) = refl
  traced_of_called listeners changes_in results (spends steps config) = refl
  traced_of_called listeners changes_in results (passes_limit kind) = refl
  traced_of_called listeners changes_in results no_pick = tt

  judged_of_called : (before : List ℕ) (f : ProcedureOf Named) (values : List Value) (o : Outcome)
      → AllOfCalled (judged_answer before f values o)
  judged_of_called before f values (ends steps results left) =
      first_of IsOfCalled (judging_refusal (after_store f values results) left f.post)
      (option_map (between before (ensures_line (is_met (after_store f values results)
      left f.post)))
      (outcome_answer f.results (ends steps results left)))
      (limit_of_called _) refl
  judged_of_called before f values (has_fault kind steps command) = refl
  judged_of_called before f values (spends steps config) = refl
  judged_of_called before f values (passes_limit kind) = refl
  judged_of_called before f values no_pick = tt

part_of_called : (line : ℕ → List ℕ) (found : Option ℕ)
    → AllOfCalled with_verdicts
    (option_map {U = Answer} (λ part. (status.NotWatchable, line part)) found)
part_of_called line None = tt
part_of_called line (Some part) = refl

watched_of_called : (f : ProcedureOf Named) (values : List Value) (document : Trees) (o : Outcome)
    → AllOfCalled with_verdicts (watched_answer f values document o)
watched_of_called f values document o =
    first_of (IsOfCalled with_verdicts) (watching_refusal f)
    (or_else (judging_refusal (before_store f values) document f.pre)
    (judged_answer (requires_line (is_met (before_store f values) document f.pre)) f values o))
    (first_of (IsOfCalled with_verdicts)
    (unless (same_data_sort f.sort grove) (status.NotWatchable, not_watchable_sort_line))
    (or_else (option_map (λ part. (status.NotWatchable, not_watchable_requires_line part))
    (first_unwatchable f.pre))
    (option_map (λ part. (status.NotWatchable, not_watchable_ensures_line part))
    (first_unwatchable f.post)))
    (unless_of_called with_verdicts (same_data_sort f.sort grove)
    (status.NotWatchable, not_watchable_sort_line) refl)
    (first_of (IsOfCalled with_verdicts)
    (option_map (λ part. (status.NotWatchable, not_watchable_requires_line part))
    (first_unwatchable f.pre))
    (option_map (λ part. (status.NotWatchable, not_watchable_ensures_line part))
    (first_unwatchable f.post))
    (part_of_called not_watchable_requires_line (first_unwatchable f.pre))
    (part_of_called not_watchable_ensures_line (first_unwatchable f.post))))
    (first_of (IsOfCalled with_verdicts) (judging_refusal (before_store f values) document f.pre)
    (judged_answer (requires_line (is_met (before_store f values) document f.pre)) f values o)
    (limit_of_called with_verdicts _) (judged_of_called with_verdicts _ f values o))

shown_of_called : (form : RunForm) (listeners : List Listener) (theory : Theory)
    (f : ProcedureOf Named) (values : List Value) (document : Trees) (o : Outcome)
    → AllOfCalled form (shown_answer form listeners theory f values document o)
shown_of_called only_outcome listeners theory f values document o =
    outcome_of_called only_outcome f.results o
shown_of_called with_changes listeners theory f values document o =
    traced_of_called with_changes listeners (changes_on theory f values document) f.results o
shown_of_called with_verdicts listeners theory f values document o =
    watched_of_called f values document o

module _ (form : RunForm) (listeners : List Listener) where
  pub grove_of_called : (theory : Theory) (f : ProcedureOf Named) (values : List Value) (fuel : ℕ)
      (document : Trees)
      → AllOfCalled form (grove_answer form listeners theory f values fuel document)
  grove_of_called theory f values fuel document =
      first_of (IsOfCalled form) (refusal document)
      (shown_answer form listeners theory f values document
      (outcome_on theory f values fuel document))
      (first_of (IsOfCalled form) (range_refusal document)
      (or_else (repeat_refusal document) (size_refusal document))
      (refused_of_called form range_line (first_out_of_range document))
      (first_of (IsOfCalled form) (repeat_refusal document) (size_refusal document)
      (refused_of_called form repeat_line (first_repeat document))
      (unless_of_called form (nat_le (size document) standard_limits.nodes)
      (limit_answer nodes_limit) refl)))
      (shown_of_called form listeners theory f values document
      (outcome_on theory f values fuel document))

  pub document_status : (theory : Theory) (f : ProcedureOf Named) (values : List Value) (fuel : ℕ)
      (bytes : List ℕ) (s : Status) (o : List ℕ)
      → DocumentAnswer (grove_answer form listeners) theory f values fuel bytes s o
      → is_of_called form s ≡ true
  document_status theory f values fuel bytes s o (no_document a) =
      all_unread (IsOfCalled form) (λ kind. refl) _ _ _ bytes s o refl a
  document_status theory f values fuel bytes s o (is_document g read spelled e) =
      subst (AllOfCalled form) e (grove_of_called theory f values fuel g)

-- A REPLY SPEAKS
abbrev Speaks : Status → Type 0
Speaks s = speaks s ≡ true

speaks_no_file : (bytes : List ℕ) (s : Status) (o : List ℕ) → NoFile bytes s o → speaks s ≡ true
speaks_no_file bytes s o a = all_no_file Speaks (λ kind. refl) refl bytes s o refl a

file_speaks : HoldsOfFiles Speaks
file_speaks = record {
  done = refl;
  fails = refl;
  left = refl;
  bad = refl;
  ill = refl;
  past = λ kind. refl;
}

body_speaks : HoldsOfBodies Speaks
body_speaks = record {
  done = refl;
  words = refl;
  bent = refl;
  bad = refl;
  ill = refl;
  past = λ kind. refl;
}

speaks_run : (form : RunForm) (listeners : List Listener) (read : Option (List ℕ))
    (bytes procedure : List ℕ) (fuel : ℕ) (arguments : List (List ℕ)) (s : Status) (o : List ℕ)
    → RunAnswer (grove_answer form listeners) read bytes procedure fuel arguments s o
    → speaks s ≡ true
speaks_run form listeners read bytes name fuel words s o (not_run a) = speaks_no_file bytes s o a
speaks_run form listeners read bytes name fuel words s o (not_called n) = refl
speaks_run form listeners read bytes name fuel words s o (is_called t f values d a e told answer) =
    speaks_called form s (document_status form listeners t f values fuel d s o answer)

module _ (voices : List Voice) (listeners : List Listener) where
  speaks_words : (books : Books) (s : Status) (o : List ℕ)
      → IsAnswer voices listeners books None s o → speaks s ≡ true
  speaks_words books s o bad_words = refl

  speaks_made : (n : ℕ) (books : Books) (s : Status) (o : List ℕ)
      → IsAnswer voices listeners books (Some (make n)) s o → speaks s ≡ true
  speaks_made n books s o (made m) = refl

  speaks_tried : (n : ℕ) (books : Books) (s : Status) (o : List ℕ)
      → IsAnswer voices listeners books (Some (trial n)) s o → speaks s ≡ true
  speaks_tried n books s o (tried m) = refl

  pub reply_speaks : (r : Option Request) (books : Books) (s : Status) (o : List ℕ)
      → IsReply voices listeners r books s o → speaks s ≡ true
  reply_speaks None books s o a = speaks_words books s o a
  reply_speaks (Some (check file)) books s o a = check_answers Speaks file_speaks a.0 s o a.1
  reply_speaks (Some (fill file)) books s o a = fill_answers Speaks file_speaks voices a.0 s o a.1
  reply_speaks (Some (wp file procedure)) books s o a =
      wp_answers Speaks body_speaks procedure a.0 s o a.1
  reply_speaks (Some (run form file procedure document fuel arguments)) books s o a =
      speaks_run form listeners (Some a.1.0) a.0 procedure fuel arguments s o a.1.1
  reply_speaks (Some (make n)) books s o a = speaks_made n books s o a
  reply_speaks (Some (trial n)) books s o a = speaks_tried n books s o a

  -- so it is no fault of the library or of the sink
  pub no_fault : (r : Option Request) (books : Books) (s : Status) (o : List ℕ)
      → IsReply voices listeners r books s o → (s ≡ status.ReadFault) ⊎ (s ≡ status.WriteFault) → ⊥
  no_fault r books s o a (inl e) = let q = reply_speaks r books s o a in cc
  no_fault r books s o a (inr e) = let q = reply_speaks r books s o a in cc

-- WHAT IS POSSIBLE
-- the place of the status in the list
abbrev PossibleOfFile : Status → Type 0
PossibleOfFile s = Contains file_statuses (status_number s)

file_possible : HoldsOfFiles PossibleOfFile
file_possible = record {
  done = (0, lit< tt, refl);
  fails = (1, lit< tt, refl);
  left = (5, lit< tt, refl);
  bad = (2, lit< tt, refl);
  ill = (3, lit< tt, refl);
  past = λ kind. (4, lit< tt, refl);
}

module _ (file procedure : List ℕ) where
  abbrev PossibleOfBody : Status → Type 0
  PossibleOfBody s = Contains (statuses (Some (wp file procedure))) (status_number s)

  body_possible : HoldsOfBodies PossibleOfBody
  body_possible = record {
    done = (0, lit< tt, refl);
    words = (1, lit< tt, refl);
    bent = (8, lit< tt, refl);
    bad = (2, lit< tt, refl);
    ill = (3, lit< tt, refl);
    past = λ kind. (4, lit< tt, refl);
  }

module _ (form : RunForm) (file procedure document : List ℕ) (fuel : ℕ)
    (arguments : List (List ℕ)) where
  abbrev Possible : Status → Type 0
  Possible s =
      Contains (statuses (Some (run form file procedure document fuel arguments)))
      (status_number s)

  -- one of those of each form
  in_run : (n : ℕ) → Contains call_statuses n → Contains (run_statuses form) n
  in_run n = Contains-append_left call_statuses (own_statuses form) n

  possible_called : (s : Status) → is_of_called form s ≡ true → Possible s
  possible_called status.Done e = in_run 0 (0, lit< tt, refl)
  possible_called status.StepFails e = absurd cc
  possible_called status.BadWords e = absurd cc
  possible_called status.BadText e = in_run 3 (2, lit< tt, refl)
  possible_called status.BadFile e = absurd cc
  possible_called status.BadDocument e = in_run 5 (4, lit< tt, refl)
  possible_called status.Faulted e = in_run 6 (5, lit< tt, refl)
  possible_called status.FuelSpent e = in_run 7 (6, lit< tt, refl)
  possible_called (status.Limit kind) e = in_run 8 (7, lit< tt, refl)
  possible_called status.GapLeft e = absurd cc
  possible_called status.OutOfMemory e = absurd cc
  possible_called status.ReadFault e = absurd cc
  possible_called status.WriteFault e = absurd cc
  possible_called status.NotStraight e = absurd cc
  possible_called status.NotWatchable e = in_form form e
    where
      in_form : (x : RunForm) → is_of_called x status.NotWatchable ≡ true
          → Contains (run_statuses x) (status_number status.NotWatchable)
      in_form only_outcome q = absurd cc
      in_form with_changes q = absurd cc
      in_form with_verdicts q = (11, lit< tt, refl)

  possible_run : (listeners : List Listener) (read : Option (List ℕ)) (bytes : List ℕ)
      (s : Status) (o : List ℕ)
      → RunAnswer (grove_answer form listeners) read bytes procedure fuel arguments s o
      → Possible s
  possible_run listeners read bytes s o (not_run a) =
      all_no_file Possible (λ kind. in_run 8 (7, lit< tt, refl)) (in_run 4 (3, lit< tt, refl))
      bytes s o (in_run 3 (2, lit< tt, refl)) a
  possible_run listeners read bytes s o (not_called n) = in_run 2 (1, lit< tt, refl)
  possible_run listeners read bytes s o (is_called t f values d a e told answer) =
      possible_called s (document_status form listeners t f values fuel d s o answer)

module _ (voices : List Voice) (listeners : List Listener) where
  possible_words : (books : Books) (s : Status) (o : List ℕ)
      → IsAnswer voices listeners books None s o → Contains (statuses None) (status_number s)
  possible_words books s o bad_words = (0, lit< tt, refl)

  possible_made : (n : ℕ) (books : Books) (s : Status) (o : List ℕ)
      → IsAnswer voices listeners books (Some (make n)) s o
      → Contains (statuses (Some (make n))) (status_number s)
  possible_made n books s o (made m) = (0, lit< tt, refl)

  possible_tried : (n : ℕ) (books : Books) (s : Status) (o : List ℕ)
      → IsAnswer voices listeners books (Some (trial n)) s o
      → Contains (statuses (Some (trial n))) (status_number s)
  possible_tried n books s o (tried m) = (0, lit< tt, refl)

  pub possible : (r : Option Request) (books : Books) (s : Status) (o : List ℕ)
      → IsReply voices listeners r books s o → Contains (statuses r) (status_number s)
  possible None books s o a = possible_words books s o a
  possible (Some (check file)) books s o a =
      check_answers PossibleOfFile file_possible a.0 s o a.1
  possible (Some (fill file)) books s o a =
      fill_answers PossibleOfFile file_possible voices a.0 s o a.1
  possible (Some (wp file procedure)) books s o a =
      wp_answers (PossibleOfBody file procedure) (body_possible file procedure) procedure a.0 s o
      a.1
  possible (Some (run form file procedure document fuel arguments)) books s o a =
      possible_run form file procedure document fuel arguments listeners (Some a.1.0) a.0 s o
      a.1.1
  possible (Some (make n)) books s o a = possible_made n books s o a
  possible (Some (trial n)) books s o a = possible_tried n books s o a

-- where the call gives up
pub no_memory : (r : Option Request) → Contains (statuses r) (status_number status.OutOfMemory)
no_memory None = (1, lit< tt, refl)
no_memory (Some (check file)) = (6, lit< tt, refl)
no_memory (Some (fill file)) = (6, lit< tt, refl)
no_memory (Some (wp file procedure)) = (5, lit< tt, refl)
no_memory (Some (run form file procedure document fuel arguments)) =
    in_run form file procedure document fuel arguments 10 (8, lit< tt, refl)
no_memory (Some (make n)) = (1, lit< tt, refl)
no_memory (Some (trial n)) = (1, lit< tt, refl)

pub no_sink : (r : Option Request) → Contains (statuses r) (status_number status.WriteFault)
no_sink None = (2, lit< tt, refl)
no_sink (Some (check file)) = (8, lit< tt, refl)
no_sink (Some (fill file)) = (8, lit< tt, refl)
no_sink (Some (wp file procedure)) = (7, lit< tt, refl)
no_sink (Some (run form file procedure document fuel arguments)) =
    in_run form file procedure document fuel arguments 12 (10, lit< tt, refl)
no_sink (Some (make n)) = (2, lit< tt, refl)
no_sink (Some (trial n)) = (2, lit< tt, refl)

pub no_book : (r : Option Request) (books : Books) (rose : List ℕ → Type 0)
    → ReadRose r books rose → Contains (statuses r) (status_number status.ReadFault)
no_book None books rose h = absurd h
no_book (Some (check file)) books rose h = (7, lit< tt, refl)
no_book (Some (fill file)) books rose h = (7, lit< tt, refl)
no_book (Some (wp file procedure)) books rose h = (6, lit< tt, refl)
no_book (Some (run form file procedure document fuel arguments)) books rose h =
    in_run form file procedure document fuel arguments 11 (9, lit< tt, refl)
no_book (Some (make n)) books rose h = absurd h
no_book (Some (trial n)) books rose h = absurd h
