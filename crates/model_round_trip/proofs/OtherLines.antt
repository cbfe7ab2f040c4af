-- Lexemes that are those of a theory, but for the lines of `step`, spell it, but for them.
use Rattle.std.proofs.Common.{ℕ, List, [], ◌∷◌, ◌++◌, ◌≡◌, refl, sym, ap, ◌∙◌, subst, map, codes, append_assoc, append-nil}
use Rattle.model_formulas.specs.Formulas.{Named}
use Rattle.model_commands.specs.Theories.{Reason, auto, by_rule, StepOf, ProcedureOf, Theory}
use Rattle.model_text.specs.Lexemes.{Lexeme, terminal, step_word, name_lexeme, word_lexeme}
use Rattle.model_grammar.specs.Words.{the, ◌⌢◌}
use Rattle.model_grammar.specs.Theories as files
use Rattle.model_grammar.specs.Theories.{SpellsAnyWord, SpellsNumber, SpellsReason, SpellsStep, SpellsSteps, SpellsProcedure, SpellsProcedures, SpellsRaw, SpellsTheory}
use Rattle.model_grammar.specs.Sorts.{sorted_reason, sorted_judgement, sorted_step, with_sorts}
use Rattle.model_grammar.specs.Writing.{in_brackets}
use Rattle.model_grammar.specs.TheoryWriting.{number_lexemes, argument_lexemes, reason_lexemes, judgement_lexemes, logic_line, step_line, procedure_lines, procedures_lines, theory_lines, all_lexemes}
use Rattle.model_grammar.specs.Writable.{undeclared, Each}
use Rattle.model_printing.specs.Printable.{HasNoLine, without_line}
use Rattle.model_round_trip.specs.Writable.{IsNumeral, IsWritableReason, IsWritableStep, IsWritableProcedure, HasOne, IsWritableTheory}
use Rattle.model_round_trip.specs.ReadBack.{step_without_line, procedure_without_lines, without_lines}
use Rattle.model_round_trip.proofs.EachLexeme.{number_holds, brackets_hold, arguments_hold, judgement_holds, header_holds, logic_lines_hold, version_holds, all_hold}
use Rattle.model_round_trip.proofs.Fronts.{Alike, Behind, both, same_lexeme, same_front, first_there, a_step_word}
use Rattle.model_round_trip.proofs.LinesAndSorts.{theory_lines_sorts}
use Rattle.model_round_trip.proofs.Parts.{each_append, all_append, header_lines, in_a_row}
use Rattle.model_round_trip.proofs.Printed.{no_line}
use Rattle.model_round_trip.proofs.Resorted.{procedure_with, theory_resorted}
use Rattle.model_text.specs.Versions.{insert_word, in_its_version}
use Rattle.model_round_trip.proofs.Versions.{seen, one_by_one}
use Rattle.model_round_trip.proofs.Written.{raw, raw_procedure, procedure_around, number_spelled, arguments_spelled, judgement_spelled, logics_spelled, same_spelled, word_spelled}

-- A front of the lexemes spells a value that is the given one, but for what is forgotten.
record Spelled {A : Type 0} (Spells : A → List Lexeme → Type 0) (forget : A → A) (given : A)
    (rest lexemes : List Lexeme) : Type 0 where
  value : A
  front : List Lexeme
  spells : Spells value front
  same : forget value ≡ forget given
  found : Behind front rest lexemes

-- ---- steps

word_again : {word : List ℕ} {x : Lexeme} (y : Lexeme) → SpellsAnyWord word (x ∷ [])
    → without_line y ≡ without_line x → SpellsAnyWord word (y ∷ [])
word_again y (files.plain_word word) e =
    subst (λ (z : Lexeme). SpellsAnyWord word (z ∷ []))
    (sym (same_lexeme (name_lexeme word) y tt e)) (files.plain_word word)
word_again y (files.reserved_word word h) e =
    subst (λ (z : Lexeme). SpellsAnyWord word (z ∷ []))
    (sym (same_lexeme (terminal word) y tt e)) (files.reserved_word word h)
word_again y (files.step_itself line) e =
    let there = a_step_word y e in
    subst (λ (z : Lexeme). SpellsAnyWord (codes "step") (z ∷ [])) (sym there.1)
    (files.step_itself there.0)
word_again y files.insert_itself e =
    subst (λ (z : Lexeme). SpellsAnyWord insert_word (z ∷ []))
    (sym (same_lexeme (terminal insert_word) y tt e)) files.insert_itself

reason_again : (v : ℕ) (r : Reason) (rest lexemes : List Lexeme) → IsWritableReason r
    → Alike (reason_lexemes v r ++ rest) lexemes
    → Spelled SpellsReason (λ z. z) (sorted_reason undeclared r) rest lexemes
reason_again v auto rest lexemes h e = record {
  value = auto;
  front = the "auto";
  spells = files.auto_word;
  same = refl;
  found = same_front (the "auto") rest lexemes (tt, tt) e;
}
reason_again v (by_rule name ns es) rest lexemes h e =
    let premises : List Lexeme = in_brackets (map number_lexemes ns) in
    let arguments : List Lexeme = argument_lexemes es in
    let others : List Lexeme = (premises ++ arguments) ++ rest in
    let word : Lexeme = seen v (word_lexeme name 0) in
    let a = same_front (the "by") (word ∷ others) lexemes (tt, tt)
    (subst (λ (z : List Lexeme). Alike (the "by" ⌢ (z ++ (premises ++ arguments)) ++ rest) lexemes)
    (one_by_one v (word_lexeme name 0 ∷ [])) e) in
    let w = first_there word others a.behind a.alike in
    let plain : Each HasNoLine (premises ++ arguments) =
    each_append HasNoLine premises arguments
    (brackets_hold HasNoLine no_line IsNumeral number_lexemes
    (number_holds HasNoLine no_line) ns h.1)
    (arguments_hold HasNoLine no_line es h.2) in
    let t = same_front (premises ++ arguments) rest w.found.behind plain w.found.alike in record {
      value = sorted_reason undeclared (by_rule name ns es);
      front = the "by" ⌢ (w.first ∷ []) ⌢ premises ⌢ arguments;
      spells = files.by_word (word_again w.first (subst (SpellsAnyWord name)
          (one_by_one v (word_lexeme name 0 ∷ [])) (word_spelled v name)) w.here)
          (same_spelled SpellsNumber IsNumeral number_lexemes number_spelled ns h.1)
          (arguments_spelled es h.2);
      same = refl;
      found = both a (both w.found t);
    }

step_again : (v : ℕ) (step : StepOf Named) (rest lexemes : List Lexeme) → IsWritableStep step
    → Alike (step_line v step ++ rest) lexemes
    → Spelled SpellsStep step_without_line (sorted_step undeclared step) rest lexemes
step_again v step rest lexemes h e =
    let judged : List Lexeme = the ":" ⌢ judgement_lexemes step.judgement ⌢ the ";" in
    let plain : Each HasNoLine judged = (
      tt,
      each_append HasNoLine (judgement_lexemes step.judgement) (the ";")
          (judgement_holds HasNoLine no_line tt step.judgement h.judgement) (tt, tt),
    ) in
    let reasoned : List Lexeme = (reason_lexemes v step.reason ++ judged) ++ rest in
    let others : List Lexeme = number_lexemes step.number ++ reasoned in
    let a = first_there (step_word step.line) others lexemes e in
    let line = a_step_word a.first a.here in
    let word : Behind (step_word line.0 ∷ []) others lexemes =
    subst (λ (z : Lexeme). Behind (z ∷ []) others lexemes) line.1 a.found in
    let n = same_front (number_lexemes step.number) reasoned word.behind (tt, tt) word.alike in
    let r = reason_again v step.reason (judged ++ rest) n.behind h.reason
    (subst (λ (z : List Lexeme). Alike z n.behind)
    (append_assoc (reason_lexemes v step.reason) judged rest) n.alike) in
    let t = same_front judged rest r.found.behind plain r.found.alike in
    let behind_number : Behind (r.front ++ judged) rest n.behind = both r.found t in record {
      value = record {
        number = step.number;
        line = line.0;
        reason = r.value;
        judgement = sorted_judgement undeclared step.judgement;
      };
      front = step_word line.0 ∷ (number_lexemes step.number ⌢ r.front ⌢ judged);
      spells = files.a_step line.0 {r = r.value} {reason = r.front}
          (number_spelled step.number h.number) r.spells
          (judgement_spelled step.judgement h.judgement);
      same = λ j. record {
        number = step.number;
        line = 0;
        reason = r.same j;
        judgement = sorted_judgement undeclared step.judgement;
      };
      found = both word (both n behind_number);
    }

steps_again : (v : ℕ) (steps : List (StepOf Named)) (rest lexemes : List Lexeme)
    → Each IsWritableStep steps → Alike (all_lexemes (map (step_line v) steps) ++ rest) lexemes
    → Spelled SpellsSteps (map step_without_line) (map (sorted_step undeclared) steps) rest lexemes
steps_again v [] rest lexemes h e = record {
  value = [];
  front = [];
  spells = files.no_step;
  same = refl;
  found = record { behind = lexemes; whole = refl; alike = e };
}
steps_again v (step ∷ steps) rest lexemes h e =
    let a = step_again v step (all_lexemes (map (step_line v) steps) ++ rest) lexemes h.0
    (subst (λ (z : List Lexeme). Alike z lexemes)
    (append_assoc (step_line v step) (all_lexemes (map (step_line v) steps)) rest) e) in
    let b = steps_again v steps rest a.found.behind h.1 a.found.alike in record {
      value = a.value ∷ b.value;
      front = a.front ++ b.front;
      spells = files.one_step a.spells b.spells;
      same = λ j. a.same j ∷ b.same j;
      found = both a.found b.found;
    }

-- ---- procedures and theories

three_parts : (a b c rest : List Lexeme) → (a ++ (b ++ c)) ++ rest ≡ a ++ (b ++ (c ++ rest))
three_parts a b c rest = simp append_assoc refl

procedure_again : (v : ℕ) (f : ProcedureOf Named) (rest lexemes : List Lexeme)
    → IsWritableProcedure f → Alike (all_lexemes (procedure_lines v f) ++ rest) lexemes
    → Spelled SpellsProcedure procedure_without_lines (procedure_with undeclared f) rest lexemes
procedure_again v f rest lexemes h e =
    let header : List Lexeme = all_lexemes (header_lines f) in
    let steps : List Lexeme = all_lexemes (map (step_line v) f.proof) in
    let a = same_front header (steps ++ (the "end" ++ rest)) lexemes
    (all_hold HasNoLine no_line (header_lines f) (header_holds HasNoLine no_line tt f h))
    (subst (λ (z : List Lexeme). Alike z lexemes)
    ((λ j. in_a_row v f j ++ rest) ∙ three_parts header steps (the "end") rest) e) in
    let b = steps_again v f.proof (the "end" ++ rest) a.behind h.proof a.alike in
    let c = same_front (the "end") rest b.found.behind (tt, tt) b.found.alike in record {
      value = raw_procedure f b.value;
      front = header ⌢ b.front ⌢ the "end";
      spells = procedure_around f h b.spells;
      same = λ j. raw_procedure f (b.same j);
      found = both a (both b.found c);
    }

first_again : (v : ℕ) (f : ProcedureOf Named) (fs : List (ProcedureOf Named))
    (rest lexemes : List Lexeme) → IsWritableProcedure f
    → Alike (all_lexemes (procedures_lines v (f ∷ fs)) ++ rest) lexemes
    → Spelled SpellsProcedure procedure_without_lines (procedure_with undeclared f)
    (all_lexemes (procedures_lines v fs) ++ rest) lexemes
first_again v f fs rest lexemes h e =
    let others : List Lexeme = all_lexemes (procedures_lines v fs) in
    procedure_again v f (others ++ rest) lexemes h
    (subst (λ (z : List Lexeme). Alike z lexemes)
    ((λ j. all_append (procedure_lines v f) (procedures_lines v fs) j ++ rest)
    ∙ append_assoc (all_lexemes (procedure_lines v f)) others rest) e)

procedures_again : (v : ℕ) (fs : List (ProcedureOf Named)) (rest lexemes : List Lexeme) → HasOne fs
    → Each IsWritableProcedure fs → Alike (all_lexemes (procedures_lines v fs) ++ rest) lexemes
    → Spelled SpellsProcedures (map procedure_without_lines)
    (map (procedure_with undeclared) fs) rest lexemes
procedures_again v [] rest lexemes one h e = absurd one
procedures_again v (f ∷ []) rest lexemes one h e =
    let a = first_again v f [] rest lexemes h.0 e in record {
      value = a.value ∷ [];
      front = a.front;
      spells = files.last_procedure a.spells;
      same = λ j. a.same j ∷ [];
      found = a.found;
    }
procedures_again v (f ∷ g ∷ fs) rest lexemes one h e =
    let a = first_again v f (g ∷ fs) rest lexemes h.0 e in
    let b = procedures_again v (g ∷ fs) rest a.found.behind tt h.1 a.found.alike in record {
      value = a.value ∷ b.value;
      front = a.front ++ b.front;
      spells = files.more_procedures a.spells b.spells;
      same = λ j. a.same j ∷ b.same j;
      found = both a.found b.found;
    }

nothing_behind : {front lexemes : List Lexeme} → Behind front [] lexemes → lexemes ≡ front
nothing_behind {front} a =
    a.whole ∙ ((λ j. front ++ none a.behind a.alike j) ∙ append-nil front) where
      none : (behind : List Lexeme) → Alike [] behind → behind ≡ []
      none [] e = refl
      none (x ∷ behind) e = absurd cc

-- the raw theory that the lexemes spell
record RawAgain (theory : Theory) (lexemes : List Lexeme) : Type 0 where
  value : Theory
  spells : SpellsRaw value lexemes
  same : without_lines value ≡ without_lines (raw theory)

raw_again : (theory : Theory) (lexemes : List Lexeme) → IsWritableTheory theory
    → Alike (all_lexemes (theory_lines theory)) lexemes → RawAgain theory lexemes
raw_again theory lexemes h e =
    let version : List Lexeme = the "domlogic" ⌢ number_lexemes theory.version in
    let logics : List Lexeme = all_lexemes (map logic_line theory.logic) in
    let others : List Lexeme = all_lexemes (procedures_lines theory.version theory.procedures) in
    let a = same_front version (logics ++ others) lexemes
    (version_holds HasNoLine no_line theory.version h.version)
    (subst (λ (z : List Lexeme). Alike (version ++ z) lexemes)
    (all_append (map logic_line theory.logic)
    (procedures_lines theory.version theory.procedures)) e) in
    let b = same_front logics others a.behind
    (all_hold HasNoLine no_line (map logic_line theory.logic)
    (logic_lines_hold HasNoLine no_line theory.logic h.logic)) a.alike in
    let c = procedures_again theory.version theory.procedures [] b.behind h.some h.procedures
    (subst (λ (z : List Lexeme). Alike z b.behind) (sym (append-nil others)) b.alike) in
    let all : Behind (version ++ (logics ++ c.front)) [] lexemes = both a (both b c.found) in
    record {
      value = record {
        version = theory.version;
        logic = theory.logic;
        procedures = c.value;
      };
      spells = subst (SpellsRaw (record {
        version = theory.version;
        logic = theory.logic;
        procedures = c.value;
      })) (sym (nothing_behind all))
          (files.theory (number_spelled theory.version h.version)
          (logics_spelled theory.logic h.logic) c.spells);
      same = λ j. record {
        version = theory.version;
        logic = theory.logic;
        procedures = c.same j;
      };
    }

pub theory_again : (theory : Theory) (lexemes : List Lexeme) → IsWritableTheory theory
    → with_sorts theory ≡ theory
    → Alike (all_lexemes (theory_lines theory)) (in_its_version lexemes)
    → (read : Theory) × SpellsTheory read lexemes
    × (without_lines read ≡ without_lines theory)
theory_again theory lexemes h e k =
    let a = raw_again theory (in_its_version lexemes) h k in (
      with_sorts a.value,
      record { raw = a.value; spelled = a.spells; sorted = refl },
      theory_lines_sorts a.value ∙ (ap with_sorts a.same
          ∙ (sym (theory_lines_sorts (raw theory))
          ∙ ap without_lines (theory_resorted (λ f. undeclared) theory ∙ e))),
    )
