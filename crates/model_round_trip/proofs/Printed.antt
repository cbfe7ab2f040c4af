-- What can be written can be printed, where its literals are UTF-8.
use Rattle.std.proofs.Common.{ℕ, Bool, true, false, cond, ◌==◌, List, [], ◌∷◌, ◌++◌, ◌≡◌, refl, sym, subst, map, codes, bytes_eq}
use Rattle.model_formulas.specs.Formulas.{Named}
use Rattle.model_commands.specs.Theories.{Reason, auto, by_rule, StepOf, ProcedureOf, Theory}
use Rattle.model_text.specs.Nesting.{lexemes_of}
use Rattle.model_grammar.specs.Words.{the}
use Rattle.model_text.specs.Lexemes.{Lexeme, terminal, step_word, name_lexeme, is_reserved, word_lexeme}
use Rattle.model_text.specs.Versions.{insert_word}
use Rattle.model_text.proofs.OfTokens.{is_seen}
use Rattle.model_grammar.specs.Writing.{in_brackets}
use Rattle.model_grammar.specs.TheoryWriting.{number_lexemes, word_lexemes, argument_lexemes, reason_lexemes, judgement_lexemes, logic_line, step_line, procedure_lines, procedures_lines, theory_lines}
use Rattle.model_grammar.specs.Writable.{Each}
use Rattle.model_printing.specs.Printable.{IsPrintable, ArePrintable, HasNoLine}
use Rattle.model_round_trip.specs.Writable.{IsWord, IsNumeral, IsWritableReason, IsWritableStep, IsWritableProcedure, IsWritableTheory}
use Rattle.model_round_trip.specs.Literals.{LiteralIsUtf8, LiteralsAreUtf8}
use Rattle.model_round_trip.proofs.Tokens.{word_by, printable}
use Rattle.model_round_trip.proofs.Versions.{plain, seen, one_by_one, insert_is_name, never_reserved, reserved_other}
use Rattle.model_round_trip.proofs.EachLexeme.{HoldsOfWritten, number_holds, brackets_hold, arguments_hold, judgement_holds, header_holds, end_holds, logic_lines_hold, version_holds}
use Rattle.model_round_trip.proofs.Parts.{each_append, header_lines}

-- it can be printed if it is no literal, or one of UTF-8
abbrev pub IsReady : Lexeme → Type 0
IsReady lexeme = LiteralIsUtf8 lexeme → IsPrintable (plain lexeme)

-- a word that isn't insertBefore is plain
plain_word : (text : List ℕ) → bytes_eq text insert_word ≡ false
    → IsPrintable (terminal text) → IsPrintable (plain (terminal text))
plain_word text e h = subst (λ b. IsPrintable (cond b (name_lexeme text) (terminal text))) (sym e) h

pub insert_ready : IsReady (terminal insert_word)
insert_ready utf8 = insert_is_name

pub ready : HoldsOfWritten IsReady
ready = record {
  of_terminal = λ text e utf8.
      plain_word text (never_reserved text (is_seen text e))
      (printable (terminal text) (is_seen text e) (λ f. cc));
  of_name = λ name h utf8. h;
  of_logic = λ name h utf8. h;
  of_number = λ n h utf8. h;
  of_literal = λ text utf8. utf8;
}

pub no_line : HoldsOfWritten HasNoLine
no_line = record {
  of_terminal = λ text e. tt;
  of_name = λ name h. tt;
  of_logic = λ name h. tt;
  of_number = λ n h. tt;
  of_literal = λ text. tt;
}

pub are_printable : (lexemes : List Lexeme) → Each IsReady lexemes → LiteralsAreUtf8 lexemes
    → ArePrintable (map plain lexemes)
are_printable [] h utf8 = tt
are_printable (first ∷ rest) h utf8 = (h.0 utf8.0, are_printable rest h.1 utf8.1)

-- ---- theories

word_ready : (v : ℕ) (name : List ℕ) → IsWord name → IsReady (seen v (word_lexeme name 0))
word_ready v name h = by_tests (bytes_eq name (codes "step")) (is_reserved name) refl h
  where
    by_step : (second : Bool) → IsPrintable (plain (cond second (step_word 0) (step_word 0)))
    by_step true = tt
    by_step false = tt

    by_reserved : (second : Bool) → IsPrintable (plain (terminal name))
        → IsPrintable (plain (cond second (terminal name) (terminal name)))
    by_reserved true e = e
    by_reserved false e = e

    by_name : (is second : Bool) → bytes_eq name insert_word ≡ is
        → lexemes_of name ≡ name_lexeme name ∷ []
        → IsPrintable (plain (cond second (cond is (terminal name) (name_lexeme name))
        (name_lexeme name)))
    by_name true true g e =
        subst (λ b. IsPrintable (cond b (name_lexeme name) (terminal name))) (sym g) e
    by_name false true g e = e
    by_name true false g e = e
    by_name false false g e = e

    by_tests : (step reserved : Bool) → is_reserved name ≡ reserved
        → lexemes_of name ≡ word_by step reserved name 1 ∷ []
        → IsReady (seen v (word_by step reserved name 0))
    by_tests true reserved f e utf8 = by_step (v == 2)
    by_tests false true f e utf8 =
        by_reserved (v == 2) (plain_word name (reserved_other name f) e)
    by_tests false false f e utf8 = by_name (bytes_eq name insert_word) (v == 2) refl e

reason_ready : (v : ℕ) (r : Reason) → IsWritableReason r → Each IsReady (reason_lexemes v r)
reason_ready v auto h = (ready.of_terminal (codes "auto") refl, tt)
reason_ready v (by_rule name ns es) h = (
  ready.of_terminal (codes "by") refl,
  each_append IsReady (word_lexemes v name) _
      (subst (Each IsReady) (sym (one_by_one v (word_lexeme name 0 ∷ [])))
      (word_ready v name h.0, tt))
      (each_append IsReady (in_brackets (map number_lexemes ns)) (argument_lexemes es)
      (brackets_hold IsReady ready IsNumeral number_lexemes (number_holds IsReady ready) ns h.1)
      (arguments_hold IsReady ready es h.2)),
)

step_ready : (v : ℕ) (step : StepOf Named) → IsWritableStep step
    → Each IsReady (step_line v step)
step_ready v step h = (
  λ utf8. tt,
  each_append IsReady (number_lexemes step.number) _
      (number_holds IsReady ready step.number h.number)
      (each_append IsReady (reason_lexemes v step.reason) _ (reason_ready v step.reason h.reason) (
        ready.of_terminal (codes ":") refl,
        each_append IsReady (judgement_lexemes step.judgement) (the ";")
            (judgement_holds IsReady ready insert_ready step.judgement h.judgement)
            (ready.of_terminal (codes ";") refl, tt),
      )),
)

steps_ready : (v : ℕ) (steps : List (StepOf Named)) → Each IsWritableStep steps
    → Each (Each IsReady) (map (step_line v) steps)
steps_ready v [] h = tt
steps_ready v (step ∷ steps) h = (step_ready v step h.0, steps_ready v steps h.1)

procedure_ready : (v : ℕ) (f : ProcedureOf Named) → IsWritableProcedure f
    → Each (Each IsReady) (procedure_lines v f)
procedure_ready v f h =
    each_append (Each IsReady) (header_lines f) (map (step_line v) f.proof ++ the "end" ∷ [])
    (header_holds IsReady ready insert_ready f h)
    (each_append (Each IsReady) (map (step_line v) f.proof) (the "end" ∷ [])
    (steps_ready v f.proof h.proof) (end_holds IsReady ready, tt))

procedures_ready : (v : ℕ) (fs : List (ProcedureOf Named)) → Each IsWritableProcedure fs
    → Each (Each IsReady) (procedures_lines v fs)
procedures_ready v [] h = tt
procedures_ready v (f ∷ fs) h =
    each_append (Each IsReady) (procedure_lines v f) (procedures_lines v fs)
    (procedure_ready v f h.0) (procedures_ready v fs h.1)

pub theory_ready : (theory : Theory) → IsWritableTheory theory
    → Each (Each IsReady) (theory_lines theory)
theory_ready theory h = (
  version_holds IsReady ready theory.version h.version,
  each_append (Each IsReady) (map logic_line theory.logic)
      (procedures_lines theory.version theory.procedures)
      (logic_lines_hold IsReady ready theory.logic h.logic)
      (procedures_ready theory.version theory.procedures h.procedures),
)

pub lines_printable : (lines : List (List Lexeme)) → Each (Each IsReady) lines
    → Each LiteralsAreUtf8 lines → Each ArePrintable (map (map plain) lines)
lines_printable [] h utf8 = tt
lines_printable (line ∷ lines) h utf8 =
    (are_printable line h.0 utf8.0, lines_printable lines h.1 utf8.1)
