-- A request has at most one answer.
use Rattle.std.proofs.Common.{◌≡◌, ℕ, zero, suc, ◌<◌, List, Option, Some, None, option_map, refl, sym, ap, ◌∙◌, subst, arith}
use Rattle.model_shapes.specs.Values.{Name, Value}
use Rattle.model_terms.specs.Terms.{Term}
use Rattle.model_limits.specs.Limits.{LimitKind}
use Rattle.model_limits.specs.FirstOf.{or_else}
use Rattle.model_formulas.specs.Formulas.{Named}
use Rattle.model_commands.specs.Theories.{ProcedureOf, StepOf, Theory, Reason, by_rule, procedure_named}
use Rattle.model_files.specs.FileFaults.{FileFault, first_file_fault}
use Rattle.rule_table.specs.Verdicts as verdicts
use Rattle.rule_table.specs.Accepted.{Fault, BadPlace}
use Rattle.rule_table.proofs.Places.{accepted-none, one-first-bad}
use Rattle.model_filling.specs.Offers.{Voice}
use Rattle.model_filling.specs.Filled.{filled_limit}
use Rattle.model_filling.proofs.One.{one-filled, one-bad, not-both-ends}
use Rattle.model_grammar.specs.TheoryWriting.{theory_text}
use Rattle.model_text.specs.Lexemes.{Lexeme}
use Rattle.model_text.specs.Nesting.{lexemes_of}
use Rattle.model_text.specs.FaultTokens.{IsFaultToken}
use Rattle.model_documents.specs.Grammar.{SpellsGrove}
use Rattle.model_grammar.specs.Theories.{SpellsTheory}
use Rattle.model_weakest.specs.Written.{new_sorts, new_variables, written}
use Rattle.model_answers.specs.Words.{Request}
use Rattle.run_trace.specs.Listeners.{Listener}
use Rattle.model_answers.specs.Arguments.{called}
use Rattle.model_answers.specs.Texts.{limit_passed, theory_limit, IsFile}
use Rattle.model_answers.specs.Output.{bad_text_line, bad_document_text_line, fail_line, no_proof_line, gap_line, precondition_lines}
use Rattle.proof_text.proofs.Exact.{one_theory}
use Rattle.logic_text.proofs.Exact.{at_most_one}
use Rattle.domcheck_core.specs.Answers.{Books, Answer, limit_answer, fault_answer, Unread, over_limit, spells_nothing, theory_refusal, NoFile, unread, refused, FileAnswer, no_file, judged, item_numbered, PlaceAnswer, has_gap, step_fails, has_no_proof, CheckVerdict, says_yes, says_no, CheckAnswer, FillVerdict, says_filled, fills_too_much, cannot_fill, FillAnswer, precondition_refusal, PreconditionAnswer, has_none, has_one, WpVerdict, not_there, is_there, WpAnswer, grove_answer, GroveAnswers, DocumentAnswer, no_document, is_document, IsCalled, NotCalled, RunAnswer, not_run, not_called, is_called, IsAnswer, bad_words, checked, filled, preconditioned, ran, made, tried, IsToldBook, IsTold}
use Rattle.domcheck_core.proofs.NewNames.{one-list}
use Rattle.domcheck_core.specs.declared.status.Status.{Status}

-- values in options
some_same : {A : Type 0} (a b : A) → Some a ≡ Some b → a ≡ b
some_same a b e = cc

some_none : {A : Type 0} (a : A) → Some a ≡ None → ⊥
some_none a e = cc

-- two answers are the same
abbrev pub Equal : Status → List ℕ → Status → List ℕ → Type 0
Equal s o t p = (s ≡ t) × (o ≡ p)

-- the parts of equal answers
some_pair : (s t : Status) (o p : List ℕ) (x : Option Answer)
    → x ≡ Some (s, o) → x ≡ Some (t, p) → Equal s o t p
some_pair s t o p x e f =
    let g : (s, o) ≡ (t, p) = some_same (s, o) (t, p) (sym e ∙ f) in
    (ap (λ (z : Answer). z.0) g, ap (λ (z : Answer). z.1) g)

-- where there is no limit there is no answer to one
unlimited : (limit : Option LimitKind) (answer : Answer) → limit ≡ None
    → option_map limit_answer limit ≡ Some answer → ⊥
unlimited limit answer e f =
    some_none answer (sym f ∙ ap (λ (z : Option LimitKind). option_map limit_answer z) e)

-- TEXTS
by_order : (k l : ℕ) → (k < l → ⊥) → (l < k → ⊥) → k ≡ l
by_order zero zero a b = refl
by_order zero (suc l) a b = absurd (a (omega arith))
by_order (suc k) zero a b = absurd (b (omega arith))
by_order (suc k) (suc l) a b =
    ap suc (by_order k l (λ h. a (omega (arith, h))) (λ h. b (omega (arith, h))))

module _ {A : Type 0} (Spells : A → List Lexeme → Type 0) where
  -- a fault token isn't before another
  not_before : (ts : List Lexeme) (k l : ℕ) → IsFaultToken Spells ts k → IsFaultToken Spells ts l
      → k < l → ⊥
  not_before ts k l a b h = a.here (omega (arith, h, b.in_range)) (b.before k h)

  one_fault_token : (ts : List Lexeme) (k l : ℕ) → IsFaultToken Spells ts k
      → IsFaultToken Spells ts l → k ≡ l
  one_fault_token ts k l a b = by_order k l (not_before ts k l a b) (not_before ts l k b a)

  module _ (most : ℕ) (bad_line : ℕ → List ℕ) (bytes : List ℕ) where
    -- a text that is read has no other answer
    pub not_unread : (s : Status) (o : List ℕ) (a : A) → limit_passed most bytes ≡ None
        → Spells a (lexemes_of bytes) → Unread Spells most bad_line bytes s o → ⊥
    not_unread s o a e spelled (over_limit f) = unlimited (limit_passed most bytes) (s, o) e f
    not_unread s o a e spelled (spells_nothing token f none fault) = none a spelled

    one_unread : (s t : Status) (o p : List ℕ) → Unread Spells most bad_line bytes s o
        → Unread Spells most bad_line bytes t p → Equal s o t p
    one_unread s t o p (over_limit e) (over_limit f) =
        some_pair s t o p (option_map limit_answer (limit_passed most bytes)) e f
    one_unread s t o p (over_limit e) (spells_nothing k f none fault) =
        absurd (unlimited (limit_passed most bytes) (s, o) f e)
    one_unread s t o p (spells_nothing k e none fault) (over_limit f) =
        absurd (unlimited (limit_passed most bytes) (t, p) e f)
    one_unread s t o p (spells_nothing k e none fault) (spells_nothing l f never other) =
        (refl, ap bad_line (one_fault_token (lexemes_of bytes) k l fault other))

-- FILES
-- a file spells at most one theory
pub one_file : (bytes : List ℕ) (t u : Theory) → IsFile bytes t → IsFile bytes u → t ≡ u
one_file bytes t u a b = one_theory (lexemes_of bytes) t u a.spelled b.spelled

-- a theory that is well formed and passes no limit isn't refused
pub admitted : (t : Theory) → first_file_fault t ≡ None → theory_limit t ≡ None
    → theory_refusal t ≡ None
admitted t e f =
    ap (λ (z : Option FileFault). or_else (option_map fault_answer z)
    (option_map limit_answer (theory_limit t))) e
    ∙ ap (λ (z : Option LimitKind). option_map limit_answer z) f

pub not_file : (bytes : List ℕ) (s : Status) (o : List ℕ) (t : Theory) → IsFile bytes t
    → NoFile bytes s o → ⊥
not_file bytes s o t file (unread a) = not_unread SpellsTheory _ bad_text_line bytes s o t
    file.read file.spelled a
not_file bytes s o t file (refused u e spelled f) =
    let same : t ≡ u = one_theory (lexemes_of bytes) t u file.spelled spelled in
    some_none (s, o) (sym f ∙ ap theory_refusal (sym same)
    ∙ admitted t file.well_formed file.within)

one_no_file : (bytes : List ℕ) (s t : Status) (o p : List ℕ) → NoFile bytes s o
    → NoFile bytes t p → Equal s o t p
one_no_file bytes s t o p (unread a) (unread b) =
    one_unread SpellsTheory _ bad_text_line bytes s t o p a b
one_no_file bytes s t o p (unread a) (refused u e spelled f) =
    absurd (not_unread SpellsTheory _ bad_text_line bytes s o u e spelled a)
one_no_file bytes s t o p (refused u e spelled f) (unread b) =
    absurd (not_unread SpellsTheory _ bad_text_line bytes t p u e spelled b)
one_no_file bytes s t o p (refused u e spelled f) (refused v d spells g) =
    some_pair s t o p (theory_refusal u) f
    (ap theory_refusal (one_theory (lexemes_of bytes) u v spelled spells) ∙ g)

module _ (Verdict : Theory → Status → List ℕ → Type 0)
    (one : (theory : Theory) (s t : Status) (o p : List ℕ) → Verdict theory s o
    → Verdict theory t p → Equal s o t p) where
  one_file_answer : (bytes : List ℕ) (s t : Status) (o p : List ℕ)
      → FileAnswer Verdict bytes s o → FileAnswer Verdict bytes t p → Equal s o t p
  one_file_answer bytes s t o p (no_file a) (no_file b) = one_no_file bytes s t o p a b
  one_file_answer bytes s t o p (no_file a) (judged u file v) =
      absurd (not_file bytes s o u file a)
  one_file_answer bytes s t o p (judged u file v) (no_file b) =
      absurd (not_file bytes t p u file b)
  one_file_answer bytes s t o p (judged u a v) (judged w b z) =
      one w s t o p (subst (λ (y : Theory). Verdict y s o) (one_file bytes u w a b) v) z

-- BAD PLACES
-- one has the number
one_numbered : {A : Type 0} (n : ℕ) (items others : List A) (a b : A) → items ≡ others
    → item_numbered n items ≡ Some a → item_numbered n others ≡ Some b → a ≡ b
one_numbered n items others a b q d e = some_same a b (sym d ∙ ap (item_numbered n) q ∙ e)

-- a step names one rule
one_name : (x y : Reason) (name other citations others : List ℕ) (arguments more : List Term)
    → x ≡ y → x ≡ by_rule name citations arguments → y ≡ by_rule other others more → name ≡ other
one_name x y name other citations others arguments more e a b = cc

gap_lines : (f g : ProcedureOf Named) (x y : StepOf Named) → f ≡ g → x ≡ y
    → gap_line x.number f.name x.line ≡ gap_line y.number g.name y.line
gap_lines f g x y e d = λ i. gap_line (d i).number (e i).name (d i).line

fail_lines : (f g : ProcedureOf Named) (x y : StepOf Named) (name other : List ℕ)
    (v : verdicts.Verdict) → f ≡ g → x ≡ y → name ≡ other
    → fail_line x.number f.name x.line name v ≡ fail_line y.number g.name y.line other v
fail_lines f g x y name other v e d n =
    λ i. fail_line (d i).number (e i).name (d i).line (n i) v

module _ (theory : Theory) where
  -- the procedure and the step of a place
  one_procedure : (n : ℕ) (f g : ProcedureOf Named)
      → item_numbered n theory.procedures ≡ Some f → item_numbered n theory.procedures ≡ Some g
      → f ≡ g
  one_procedure n f g = one_numbered n theory.procedures theory.procedures f g refl

  one_step : (n : ℕ) (f g : ProcedureOf Named) (x y : StepOf Named) → f ≡ g
      → item_numbered n f.proof ≡ Some x → item_numbered n g.proof ≡ Some y → x ≡ y
  one_step n f g x y e = one_numbered n f.proof g.proof x y (ap (λ (z : ProcedureOf Named).
      z.proof) e)

  one_place : (n k : ℕ) (fault : Fault) (s t : Status) (o p : List ℕ)
      → PlaceAnswer theory n k fault s o → PlaceAnswer theory n k fault t p → Equal s o t p
  one_place n k fault s t o p (has_gap f x a b) (has_gap g y c d) =
      let one : f ≡ g = one_procedure n f g a c in
      (refl, gap_lines f g x y one (one_step k f g x y one b d))
  one_place n k fault s t o p (step_fails f x name ns ts v a b q)
      (step_fails g y other ms us w c d r) =
      let one : f ≡ g = one_procedure n f g a c in
      let step : x ≡ y = one_step k f g x y one b d in
      let named : name ≡ other = one_name x.reason y.reason name other ns ms ts us
      (ap (λ (z : StepOf Named). z.reason) step) q r in
      (refl, fail_lines f g x y name other v one step named)
  one_place n k fault s t o p (has_no_proof f a) (has_no_proof g b) =
      (refl, ap (λ (z : ProcedureOf Named). no_proof_line z.name) (one_procedure n f g a b))

  -- the answer to the same place is the same
  same_place : (bad other : BadPlace) (s t : Status) (o p : List ℕ) → bad ≡ other
      → PlaceAnswer theory bad.procedure bad.step bad.fault s o
      → PlaceAnswer theory other.procedure other.step other.fault t p → Equal s o t p
  same_place bad other s t o p e a b =
      one_place other.procedure other.step other.fault s t o p
      (subst (λ (z : BadPlace). PlaceAnswer theory z.procedure z.step z.fault s o) e a) b

-- CHECK
one_verdict : (theory : Theory) (s t : Status) (o p : List ℕ) → CheckVerdict theory s o
    → CheckVerdict theory t p → Equal s o t p
one_verdict theory s t o p (says_yes x) (says_yes y) = (refl, refl)
one_verdict theory s t o p (says_yes x) (says_no bad y a) =
    absurd (accepted-none theory bad x y)
one_verdict theory s t o p (says_no bad x a) (says_yes y) =
    absurd (accepted-none theory bad y x)
one_verdict theory s t o p (says_no bad x a) (says_no other y b) =
    same_place theory bad other s t o p (one-first-bad theory bad other x y) a b

pub one_check : (bytes : List ℕ) (s t : Status) (o p : List ℕ)
    → CheckAnswer bytes s o → CheckAnswer bytes t p → Equal s o t p
one_check = one_file_answer CheckVerdict one_verdict

-- FILL
module _ (voices : List Voice) where
  one_filling : (theory : Theory) (s t : Status) (o p : List ℕ) → FillVerdict voices theory s o
      → FillVerdict voices theory t p → Equal s o t p
  one_filling theory s t o p (says_filled u x within) (says_filled v y short) =
      (refl, ap theory_text (one-filled theory voices u v x y))
  one_filling theory s t o p (says_filled u x within) (fills_too_much v y e) =
      absurd (unlimited (filled_limit v) (t, p)
      (ap filled_limit (sym (one-filled theory voices u v x y)) ∙ within) e)
  one_filling theory s t o p (says_filled u x within) (cannot_fill bad y a) =
      absurd (not-both-ends theory voices u bad x y)
  one_filling theory s t o p (fills_too_much u x e) (says_filled v y within) =
      absurd (unlimited (filled_limit u) (s, o)
      (ap filled_limit (one-filled theory voices u v x y) ∙ within) e)
  one_filling theory s t o p (fills_too_much u x e) (fills_too_much v y d) =
      some_pair s t o p (option_map limit_answer (filled_limit u)) e
      (ap (λ (z : Theory). option_map limit_answer (filled_limit z))
      (one-filled theory voices u v x y) ∙ d)
  one_filling theory s t o p (fills_too_much u x e) (cannot_fill bad y a) =
      absurd (not-both-ends theory voices u bad x y)
  one_filling theory s t o p (cannot_fill bad x a) (says_filled v y within) =
      absurd (not-both-ends theory voices v bad y x)
  one_filling theory s t o p (cannot_fill bad x a) (fills_too_much v y e) =
      absurd (not-both-ends theory voices v bad y x)
  one_filling theory s t o p (cannot_fill bad x a) (cannot_fill other y b) =
      same_place theory bad other s t o p (one-bad theory voices bad other x y) a b

  pub one_fill : (bytes : List ℕ) (s t : Status) (o p : List ℕ)
      → FillAnswer voices bytes s o → FillAnswer voices bytes t p → Equal s o t p
  one_fill = one_file_answer (FillVerdict voices) one_filling

-- WP
one_precondition : (theory : Theory) (f : ProcedureOf Named) (s t : Status) (o p : List ℕ)
    → PreconditionAnswer theory f s o → PreconditionAnswer theory f t p → Equal s o t p
one_precondition theory f s t o p (has_none e) (has_none d) =
    some_pair s t o p (precondition_refusal f) e d
one_precondition theory f s t o p (has_none e) (has_one names d new many) =
    absurd (some_none (s, o) (sym e ∙ d))
one_precondition theory f s t o p (has_one names e new many) (has_none d) =
    absurd (some_none (t, p) (sym d ∙ e))
one_precondition theory f s t o p (has_one names e new many) (has_one others d newer more) = (
  refl,
  ap (λ (z : List Name). precondition_lines (new_variables z (new_sorts f.body))
      (written z f.body f.post))
      (one-list theory.logic 1 names others new newer (many ∙ sym more)),
)

one_there : (procedure : Name) (theory : Theory) (s t : Status) (o p : List ℕ)
    → WpVerdict procedure theory s o → WpVerdict procedure theory t p → Equal s o t p
one_there procedure theory s t o p (not_there e) (not_there d) = (refl, refl)
one_there procedure theory s t o p (not_there e) (is_there g d b) =
    absurd (some_none g (sym d ∙ e))
one_there procedure theory s t o p (is_there f e a) (not_there d) =
    absurd (some_none f (sym e ∙ d))
one_there procedure theory s t o p (is_there f e a) (is_there g d b) =
    one_precondition theory g s t o p
    (subst (λ (z : ProcedureOf Named). PreconditionAnswer theory z s o)
    (some_same f g (sym e ∙ d)) a) b

pub one_wp : (procedure : Name) (bytes : List ℕ) (s t : Status) (o p : List ℕ)
    → WpAnswer procedure bytes s o → WpAnswer procedure bytes t p → Equal s o t p
one_wp procedure = one_file_answer (WpVerdict procedure) (one_there procedure)

-- a file doesn't have a procedure and have it not
pub not_both_there : (procedure : Name) (bytes : List ℕ) (t u : Theory) (f : ProcedureOf Named)
    → IsFile bytes t → IsFile bytes u → procedure_named procedure t.procedures ≡ Some f
    → procedure_named procedure u.procedures ≡ None → ⊥
not_both_there procedure bytes t u f a b e d =
    some_none f (sym e ∙ ap (λ (z : Theory). procedure_named procedure z.procedures)
    (one_file bytes t u a b) ∙ d)

-- RUN
one_on_document : (on_grove : GroveAnswers) (theory : Theory) (f : ProcedureOf Named)
    (values : List Value) (fuel : ℕ) (bytes : List ℕ) (s t : Status) (o p : List ℕ)
    → DocumentAnswer on_grove theory f values fuel bytes s o
    → DocumentAnswer on_grove theory f values fuel bytes t p → Equal s o t p
one_on_document on_grove theory f values fuel bytes s t o p (no_document a) (no_document b) =
    one_unread SpellsGrove _ bad_document_text_line bytes s t o p a b
one_on_document on_grove theory f values fuel bytes s t o p (no_document a) (is_document g e x y) =
    absurd (not_unread SpellsGrove _ bad_document_text_line bytes s o g e x a)
one_on_document on_grove theory f values fuel bytes s t o p (is_document g e x y) (no_document b) =
    absurd (not_unread SpellsGrove _ bad_document_text_line bytes t p g e x b)
one_on_document on_grove theory f values fuel bytes s t o p (is_document g e x y)
    (is_document h d z w) =
    some_pair s t o p (on_grove theory f values fuel g) y
    (ap (on_grove theory f values fuel) (at_most_one (lexemes_of bytes) g h x z) ∙ w)

-- what a file calls
pub one_call : (bytes procedure : List ℕ) (arguments : List (List ℕ)) (t u : Theory)
    → IsFile bytes t → IsFile bytes u
    → called t procedure arguments ≡ called u procedure arguments
one_call bytes procedure arguments t u a b =
    ap (λ (z : Theory). called z procedure arguments) (one_file bytes t u a b)

pub not_both_called : (bytes procedure : List ℕ) (arguments : List (List ℕ))
    → IsCalled bytes procedure arguments → NotCalled bytes procedure arguments → ⊥
not_both_called bytes procedure arguments c n =
    some_none (c.2, c.3) (sym c.4 ∙ one_call bytes procedure arguments c.0 n.0 c.1 n.1 ∙ n.2)

same_document : (on_grove : GroveAnswers) (t u : Theory) (f g : ProcedureOf Named)
    (values others : List Value) (fuel : ℕ)
    (read reread : List ℕ) (s : Status) (o : List ℕ)
    → t ≡ u → f ≡ g → values ≡ others → read ≡ reread
    → DocumentAnswer on_grove t f values fuel read s o
    → DocumentAnswer on_grove u g others fuel reread s o
same_document on_grove t u f g values others fuel read reread s o a b c d answer =
    subst (λ (z : Theory). DocumentAnswer on_grove z g others fuel reread s o) a
    (subst (λ (z : ProcedureOf Named). DocumentAnswer on_grove t z others fuel reread s o) b
    (subst (λ (z : List Value). DocumentAnswer on_grove t f z fuel reread s o) c
    (subst (λ (z : List ℕ). DocumentAnswer on_grove t f values fuel z s o) d answer)))

pub one_run : (on_grove : GroveAnswers) (document : Option (List ℕ)) (bytes procedure : List ℕ)
    (fuel : ℕ) (arguments : List (List ℕ)) (s t : Status) (o p : List ℕ)
    → RunAnswer on_grove document bytes procedure fuel arguments s o
    → RunAnswer on_grove document bytes procedure fuel arguments t p → Equal s o t p
one_run on_grove document bytes name fuel words s t o p (not_run a) (not_run b) =
    one_no_file bytes s t o p a b
one_run on_grove document bytes name fuel words s t o p (not_run a) (not_called m) =
    absurd (not_file bytes s o m.0 m.1 a)
one_run on_grove document bytes name fuel words s t o p (not_run n)
    (is_called u f vs read a e r d) =
    absurd (not_file bytes s o u a n)
one_run on_grove document bytes name fuel words s t o p (not_called m) (not_run b) =
    absurd (not_file bytes t p m.0 m.1 b)
one_run on_grove document bytes name fuel words s t o p (not_called m) (not_called n) = (refl, refl)
one_run on_grove document bytes name fuel words s t o p (not_called m)
    (is_called u f vs read a e r d) =
    absurd (not_both_called bytes name words (u, a, f, vs, e) m)
one_run on_grove document bytes name fuel words s t o p
    (is_called u f vs read a e r d) (not_run n) =
    absurd (not_file bytes t p u a n)
one_run on_grove document bytes name fuel words s t o p
    (is_called u f vs read a e r d) (not_called m) =
    absurd (not_both_called bytes name words (u, a, f, vs, e) m)
one_run on_grove document bytes name fuel words s t o p
    (is_called u f values read a e told d) (is_called v g others reread b h retold c) =
    let pair : (f, values) ≡ (g, others) =
    some_same (f, values) (g, others) (sym e ∙ one_call bytes name words u v a b ∙ h) in
    let here : read ≡ reread = some_same read reread (sym told ∙ retold) in
    one_on_document on_grove v g others fuel reread s t o p
    (same_document on_grove u v f g values others fuel read reread s o (one_file bytes u v a b)
    (ap (λ (z : ProcedureOf Named × List Value). z.0) pair)
    (ap (λ (z : ProcedureOf Named × List Value). z.1) pair) here d) c

pub one_answer : (voices : List Voice) (listeners : List Listener) (books : Books)
    (r : Option Request) (s : Status) (o : List ℕ) (t : Status) (p : List ℕ)
    → IsAnswer voices listeners books r s o → IsAnswer voices listeners books r t p
    → Equal s o t p
one_answer voices listeners books r s o t p bad_words bad_words = (refl, refl)
one_answer voices listeners books r s o t p (checked file bytes e a) (checked again other f b) =
    let same : bytes ≡ other = some_same bytes other (sym e ∙ f) in
    one_check other s t o p (subst (λ (z : List ℕ). CheckAnswer z s o) same a) b
one_answer voices listeners books r s o t p (filled file bytes e a) (filled again other f b) =
    let same : bytes ≡ other = some_same bytes other (sym e ∙ f) in
    one_fill voices other s t o p (subst (λ (z : List ℕ). FillAnswer voices z s o) same a) b
one_answer voices listeners books r s o t p (preconditioned file procedure bytes e a)
    (preconditioned again name other f b) =
    let same : bytes ≡ other = some_same bytes other (sym e ∙ f) in
    one_wp procedure other s t o p (subst (λ (z : List ℕ). WpAnswer procedure z s o) same a) b
one_answer voices listeners books r s o t p
    (ran form file procedure document fuel arguments bytes e a)
    (ran form' again procedure' document' fuel' arguments' other f b) =
    let same : bytes ≡ other = some_same bytes other (sym e ∙ f) in
    let on_grove = grove_answer form listeners in
    one_run on_grove (books document) other procedure fuel arguments s t o p
    (subst (λ (z : List ℕ). RunAnswer on_grove (books document) z procedure fuel arguments s o) same
    a) b
one_answer voices listeners books r s o t p (made n) (made m) = (refl, refl)
one_answer voices listeners books r s o t p (tried n) (tried m) = (refl, refl)

-- where there is an answer, what it needs is told
told_for_run : (on_grove : GroveAnswers) (books : Books) (bytes procedure document : List ℕ)
    (fuel : ℕ) (arguments : List (List ℕ)) (s : Status) (o : List ℕ)
    → RunAnswer on_grove (books document) bytes procedure fuel arguments s o
    → IsCalled bytes procedure arguments → IsToldBook books document
told_for_run on_grove books bytes procedure document fuel arguments s o (not_run n) c =
    absurd (not_file bytes s o c.0 c.1 n)
told_for_run on_grove books bytes procedure document fuel arguments s o (not_called m) c =
    absurd (not_both_called bytes procedure arguments c m)
told_for_run on_grove books bytes procedure document fuel arguments s o
    (is_called u f vs read a e told d) c =
    (read, told)

pub told_of : (voices : List Voice) (listeners : List Listener) (books : Books)
    (r : Option Request) (s : Status) (o : List ℕ) → IsAnswer voices listeners books r s o
    → IsTold r books
told_of voices listeners books r s o bad_words = tt
told_of voices listeners books r s o (made n) = tt
told_of voices listeners books r s o (tried n) = tt
told_of voices listeners books r s o (checked file bytes e a) = (bytes, e)
told_of voices listeners books r s o (filled file bytes e a) = (bytes, e)
told_of voices listeners books r s o (preconditioned file procedure bytes e a) = (bytes, e)
told_of voices listeners books r s o (ran form file procedure document fuel arguments bytes e a) = (
  bytes,
  e,
  told_for_run (grove_answer form listeners) books bytes procedure document fuel arguments s o a,
)
