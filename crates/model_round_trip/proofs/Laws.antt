-- What is printed reads back.
use Rattle.std.proofs.Common.{ℕ, Bool, true, false, cond, List, [], ◌∷◌, ◌++◌, ◌≡◌, refl, sym, ap, ◌∙◌, subst, map, bytes_eq}
use Rattle.std.proofs.lemmas.List.{map-append}
use Rattle.model_formulas.specs.Formulas.{Named}
use Rattle.model_commands.specs.Commands.{Command}
use Rattle.model_commands.specs.Theories.{Theory}
use Rattle.model_text.specs.Lexemes.{Lexeme, terminal, step_word, name_lexeme, logic_lexeme, number_lexeme, literal_lexeme, bad_lexeme}
use Rattle.model_text.specs.FaultTokens.{AreOfTokens}
use Rattle.model_text.specs.Versions.{insert_word, seen_in, in_its_version, IsOfVersion}
use Rattle.model_text.specs.Nesting.{lexemes_of}
use Rattle.model_text.proofs.OfTokens.{is_seen, text_seen}
use Rattle.model_grammar.specs.Formulas.{SpellsFormula}
use Rattle.model_grammar.specs.Commands.{SpellsCommand}
use Rattle.model_grammar.specs.Theories.{SpellsTheory}
use Rattle.model_grammar.specs.Sorts.{Declared, sorted_formula, sorted_command, with_sorts}
use Rattle.model_grammar.specs.Writing.{command_lexemes, text_of}
use Rattle.model_grammar.specs.TheoryWriting.{formula_lexemes, theory_lines, all_lexemes, theory_text}
use Rattle.model_grammar.specs.Writable.{undeclared, Each, IsWritable, IsWritableCommand}
use Rattle.model_grammar.proofs.Spelled.{formula_spelled, command_spelled}
use Rattle.model_printing.specs.Printable.{ArePrintable, HasNoLine, without_line}
use Rattle.model_printing.proofs.Lines.{same_read_back, lines_read_back}
use Rattle.model_round_trip.specs.Writable.{IsWritableTheory}
use Rattle.model_round_trip.specs.Literals.{LiteralIsUtf8, LiteralsAreUtf8}
use Rattle.model_round_trip.specs.ReadBack.{SpellsFormulaAt, SpellsCommandAt, ReadsAs}
use Rattle.model_round_trip.proofs.EachLexeme.{HoldsOfWritten, formula_holds, command_holds}
use Rattle.model_round_trip.proofs.OneSpelling.{formula_written, command_written}
use Rattle.model_round_trip.proofs.OtherLines.{theory_again}
use Rattle.model_round_trip.proofs.Printed.{IsReady, ready, insert_ready, no_line, are_printable, theory_ready, lines_printable}
use Rattle.model_round_trip.proofs.Readable.{formula_readable, command_readable, theory_readable}
use Rattle.model_round_trip.proofs.ReadTexts.{literals_read, as_read, theory_read}
use Rattle.model_round_trip.proofs.Versions.{plain, again_in, lines_in_version, text_plain, lines_plain, never_reserved, tokens_seen, tokens_of_version, all_seen}
use Rattle.model_round_trip.proofs.Written.{all_of_version}
use Rattle.model_round_trip.proofs.Resorted.{formula_resorted, command_resorted, sorted_twice}

-- ---- formulas

pub formula_at : (d : Declared) (p : Named) (lexemes : List Lexeme) → sorted_formula d p ≡ p
    → SpellsFormula (sorted_formula undeclared p) lexemes → SpellsFormulaAt d p lexemes
formula_at d p lexemes e l =
    (sorted_formula undeclared p, l, sym (formula_resorted d undeclared p ∙ e))

-- the lexemes of a formula are plain
abbrev IsPlain : Lexeme → Type 0
IsPlain lexeme = plain lexeme ≡ lexeme

plain_written : HoldsOfWritten IsPlain
plain_written = record {
  of_terminal = λ text e.
      ap (λ b. cond b (name_lexeme text) (terminal text)) (never_reserved text (is_seen text e));
  of_name = λ name h. refl;
  of_logic = λ name h. refl;
  of_number = λ n h. refl;
  of_literal = λ text. refl;
}

all_plain : (lexemes : List Lexeme) → Each IsPlain lexemes → map plain lexemes ≡ lexemes
all_plain [] h = refl
all_plain (x ∷ xs) h = λ j. h.0 j ∷ all_plain xs h.1 j

formula_printed : (p : Named) → IsWritable p → LiteralsAreUtf8 (formula_lexemes p)
    → lexemes_of (text_of (formula_lexemes p)) ≡ formula_lexemes p
formula_printed p h utf8 =
    let e : map plain (formula_lexemes p) ≡ formula_lexemes p =
    all_plain (formula_lexemes p) (formula_holds IsPlain plain_written p h) in
    same_read_back (formula_lexemes p)
    (subst ArePrintable e
    (are_printable (formula_lexemes p) (formula_holds IsReady ready p h) utf8))
    (formula_holds HasNoLine no_line p h)

pub formula_reads : (p : Named) → IsWritable p → LiteralsAreUtf8 (formula_lexemes p)
    → SpellsFormula (sorted_formula undeclared p) (lexemes_of (text_of (formula_lexemes p)))
formula_reads p h utf8 =
    subst (SpellsFormula (sorted_formula undeclared p)) (sym (formula_printed p h utf8))
    (formula_spelled p h)

pub formula_reads_again : (p : Named) (bytes : List ℕ) → SpellsFormula p (lexemes_of bytes)
    → SpellsFormula p (lexemes_of (text_of (formula_lexemes p)))
formula_reads_again p bytes l =
    let seen = text_seen bytes in
    let e = formula_written l in
    subst (SpellsFormula p)
    (sym (formula_printed p (formula_readable l (all_seen _ seen))
    (as_read LiteralIsUtf8 e (literals_read _ (all_seen _ seen))) ∙ e)) l

-- ---- commands

pub command_at : (d : Declared) (c : Command) (lexemes : List Lexeme) → sorted_command d c ≡ c
    → SpellsCommand (sorted_command undeclared c) lexemes → SpellsCommandAt d c lexemes
command_at d c lexemes e l =
    (sorted_command undeclared c, l, sym (command_resorted d undeclared c ∙ e))

plain_line : (x : Lexeme) → HasNoLine x → HasNoLine (plain x)
plain_line (terminal text) h = by_test (bytes_eq text insert_word)
  where
    by_test : (b : Bool) → HasNoLine (cond b (name_lexeme text) (terminal text))
    by_test true = tt
    by_test false = tt
plain_line (step_word line) h = h
plain_line (name_lexeme name) h = h
plain_line (logic_lexeme name) h = h
plain_line (number_lexeme n) h = h
plain_line (literal_lexeme text) h = h
plain_line bad_lexeme h = h

-- a plain lexeme has a line where it had one
plain_lines : (lexemes : List Lexeme) → Each HasNoLine lexemes
    → Each HasNoLine (map plain lexemes)
plain_lines [] h = tt
plain_lines (x ∷ xs) h = (plain_line x h.0, plain_lines xs h.1)

-- the text of a command reads back, as its words are seen in the version
command_printed : (v : ℕ) (c : Command) → IsWritableCommand c
    → Each (IsOfVersion v) (command_lexemes c) → LiteralsAreUtf8 (command_lexemes c)
    → seen_in v (lexemes_of (text_of (command_lexemes c))) ≡ command_lexemes c
command_printed v c h words utf8 =
    let lexemes : List Lexeme = map plain (command_lexemes c) in
    let back : lexemes_of (text_of lexemes) ≡ lexemes =
    same_read_back lexemes
    (are_printable (command_lexemes c) (command_holds IsReady ready insert_ready c h) utf8)
    (plain_lines (command_lexemes c) (command_holds HasNoLine no_line tt c h)) in
    sym (λ j. seen_in v (lexemes_of (text_plain (command_lexemes c) j)))
    ∙ ap (seen_in v) back ∙ again_in v (command_lexemes c) words

pub command_reads : (v : ℕ) (c : Command) → IsWritableCommand c
    → Each (IsOfVersion v) (command_lexemes c) → LiteralsAreUtf8 (command_lexemes c)
    → SpellsCommand (sorted_command undeclared c)
    (seen_in v (lexemes_of (text_of (command_lexemes c))))
command_reads v c h words utf8 =
    subst (SpellsCommand (sorted_command undeclared c)) (sym (command_printed v c h words utf8))
    (command_spelled c h)

-- what is said of the lexemes of a command that is read
pub command_can : (v : ℕ) (c : Command) (lexemes : List Lexeme)
    → SpellsCommand c (seen_in v lexemes) → AreOfTokens lexemes → IsWritableCommand c
command_can v c lexemes l seen = command_readable l (tokens_seen v lexemes seen)

pub command_literals : (v : ℕ) (c : Command) (lexemes : List Lexeme)
    → SpellsCommand c (seen_in v lexemes) → AreOfTokens lexemes
    → LiteralsAreUtf8 (command_lexemes c)
command_literals v c lexemes l seen =
    as_read LiteralIsUtf8 (command_written l) (literals_read _ (tokens_seen v lexemes seen))

pub command_words : (v : ℕ) (c : Command) (lexemes : List Lexeme)
    → SpellsCommand c (seen_in v lexemes) → AreOfTokens lexemes
    → Each (IsOfVersion v) (command_lexemes c)
command_words v c lexemes l seen =
    as_read (IsOfVersion v) (command_written l) (tokens_of_version v lexemes seen)

pub command_reads_again : (v : ℕ) (c : Command) (bytes : List ℕ)
    → SpellsCommand c (seen_in v (lexemes_of bytes))
    → SpellsCommand c (seen_in v (lexemes_of (text_of (command_lexemes c))))
command_reads_again v c bytes l =
    let seen = text_seen bytes in
    subst (SpellsCommand c)
    (sym (command_printed v c (command_can v c _ l seen) (command_words v c _ l seen)
    (command_literals v c _ l seen) ∙ command_written l)) l

-- ---- theories

pub theory_sorted_once : (t : Theory) (lexemes : List Lexeme) → SpellsTheory t lexemes
    → with_sorts t ≡ t
theory_sorted_once t lexemes spells =
    subst (λ (z : Theory). with_sorts z ≡ z) (sym spells.sorted) (sorted_twice spells.raw)

-- the lexemes of lines, each mapped
all_map : (lines : List (List Lexeme))
    → all_lexemes (map (map plain) lines) ≡ map plain (all_lexemes lines)
all_map [] = refl
all_map (line ∷ lines) =
    (λ j. map plain line ++ all_map lines j) ∙ sym (map-append plain line (all_lexemes lines))

pub theory_reads : (t : Theory) → IsWritableTheory t → with_sorts t ≡ t
    → Each LiteralsAreUtf8 (theory_lines t) → ReadsAs t (theory_text t)
theory_reads t h e utf8 =
    let lines : List (List Lexeme) = theory_lines t in
    let all : List Lexeme = all_lexemes lines in
    let back : map without_line (lexemes_of (theory_text t)) ≡ map without_line (map plain all) =
    sym (λ j. map without_line (lexemes_of (lines_plain lines j)))
    ∙ lines_read_back (map (map plain) lines) (lines_printable lines (theory_ready t h) utf8)
    ∙ ap (map without_line) (all_map lines) in
    theory_again t (lexemes_of (theory_text t)) h e
    (lines_in_version (lexemes_of (theory_text t)) ∙ ap in_its_version back
    ∙ sym (lines_in_version (map plain all))
    ∙ ap (map without_line) (again_in t.version all (all_of_version t h)))

pub theory_reads_again : (t : Theory) (bytes : List ℕ) → SpellsTheory t (lexemes_of bytes)
    → ReadsAs t (theory_text t)
theory_reads_again t bytes spells =
    let seen = text_seen bytes in
    theory_reads t (theory_readable spells seen)
    (theory_sorted_once t (lexemes_of bytes) spells) (theory_read spells seen)
