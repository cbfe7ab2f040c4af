-- Lexemes that are printed with a space between each two, and lines of them, read back.
use Rattle.std.proofs.Common.{◌≡◌, ℕ, List, [], ◌∷◌, ◌++◌, length, map, refl, sym, subst, ◌∙◌, ap, append_assoc}
use Rattle.std.proofs.lemmas.List.{append-nil, map-append}
use Rattle.model_text.specs.Lexemes.{Lexeme, terminal, step_word, name_lexeme, logic_lexeme, number_lexeme, literal_lexeme, bad_lexeme}
use Rattle.model_text.specs.Tokens.{TokenKind, newline, piece_at, token_piece}
use Rattle.model_text.specs.Nesting.{lexemes_of}
use Rattle.model_grammar.specs.Writing.{printed, spaced, text_of}
use Rattle.model_grammar.specs.TheoryWriting.{text_of_lines, all_lexemes}
use Rattle.model_grammar.specs.Writable.{Each}
use Rattle.model_printing.specs.Printable.{IsPrintable, ArePrintable, HasNoLine, without_line}
use Rattle.model_printing.proofs.Alone.{IsToken}
use Rattle.model_printing.proofs.Ended.{EndsTokens, space_ends, newline_ends, token_before}
use Rattle.model_printing.proofs.Found.{lines_kept}
use Rattle.model_printing.proofs.Printing.{printable_token}
use Rattle.model_printing.proofs.Backwards.{Reads, First, ReadsFrom, space_is_gap, newline_is_gap, nothing_reads, token_reads, gap_reads, read_back}

before_rest : (kind : TokenKind) (own rest : List ℕ) → IsToken kind own → First EndsTokens rest
    → piece_at (own ++ rest) ≡ token_piece kind (length own)
before_rest kind own [] token ends = ap piece_at (append-nil own) ∙ token
before_rest kind own (c ∷ rest) token ends = token_before kind own rest c ends token

-- a lexeme before what no token goes on with
printed_reads : (lexeme : Lexeme) (bytes : List ℕ) (lexemes : List Lexeme) → IsPrintable lexeme
    → ReadsFrom EndsTokens bytes lexemes
    → Reads (printed lexeme ++ bytes) (without_line lexeme ∷ lexemes)
printed_reads lexeme bytes lexemes can behind = let so = printable_token lexeme can in
    token_reads so behind.reads
    (before_rest so.kind so.own behind.reads.own so.token behind.first)

-- A LINE
spaced_reads : (line : List Lexeme) (bytes : List ℕ) (lexemes : List Lexeme) → ArePrintable line
    → ReadsFrom EndsTokens bytes lexemes
    → ReadsFrom EndsTokens (spaced line ++ bytes) (map without_line line ++ lexemes)
spaced_reads [] bytes lexemes can behind = behind
spaced_reads (first ∷ line) bytes lexemes can behind =
    gap_reads EndsTokens 32 space_is_gap space_ends
    (subst (λ text. Reads text (without_line first ∷ (map without_line line ++ lexemes)))
    (sym (append_assoc (printed first) (spaced line) bytes))
    (printed_reads first (spaced line ++ bytes) (map without_line line ++ lexemes) can.0
    (spaced_reads line bytes lexemes can.1 behind)))

line_reads : (line : List Lexeme) (bytes : List ℕ) (lexemes : List Lexeme) → ArePrintable line
    → ReadsFrom EndsTokens bytes lexemes
    → Reads (text_of line ++ bytes) (map without_line line ++ lexemes)
line_reads [] bytes lexemes can behind = behind.reads
line_reads (first ∷ line) bytes lexemes can behind =
    subst (λ text. Reads text (without_line first ∷ (map without_line line ++ lexemes)))
    (sym (append_assoc (printed first) (spaced line) bytes))
    (printed_reads first (spaced line ++ bytes) (map without_line line ++ lexemes) can.0
    (spaced_reads line bytes lexemes can.1 behind))

-- LINES
lines_read : (lines : List (List Lexeme)) → Each ArePrintable lines
    → Reads (text_of_lines lines) (map without_line (all_lexemes lines))
lines_read [] can = (nothing_reads {Is = EndsTokens}).reads
lines_read (line ∷ rest) can =
    subst (Reads (text_of line ++ newline ∷ text_of_lines rest))
    (sym (map-append without_line line (all_lexemes rest)))
    (line_reads line (newline ∷ text_of_lines rest) (map without_line (all_lexemes rest)) can.0
    (gap_reads EndsTokens newline newline_is_gap newline_ends (lines_read rest can.1)))

-- WHAT IS READ
pub lines_read_back : (lines : List (List Lexeme)) → Each ArePrintable lines
    → map without_line (lexemes_of (text_of_lines lines))
    ≡ map without_line (all_lexemes lines)
lines_read_back lines can = read_back (lines_read lines can)

pub text_reads_back : (lexemes : List Lexeme) → ArePrintable lexemes
    → map without_line (lexemes_of (text_of lexemes)) ≡ map without_line lexemes
text_reads_back lexemes can = ap (λ text. map without_line (lexemes_of text))
    (sym (append-nil (text_of lexemes)))
    ∙ read_back (line_reads lexemes [] [] can nothing_reads)
    ∙ append-nil (map without_line lexemes)

-- without a line nothing is lost
no_line : (lexeme : Lexeme) → HasNoLine lexeme → without_line lexeme ≡ lexeme
no_line (terminal text) none = refl
no_line (step_word line) none = absurd none
no_line (name_lexeme name) none = refl
no_line (logic_lexeme name) none = refl
no_line (number_lexeme n) none = refl
no_line (literal_lexeme text) none = refl
no_line bad_lexeme none = refl

no_lines : (lexemes : List Lexeme) → Each HasNoLine lexemes → map without_line lexemes ≡ lexemes
no_lines [] none = refl
no_lines (first ∷ rest) none = λ i. no_line first none.0 i ∷ no_lines rest none.1 i

pub same_read_back : (lexemes : List Lexeme) → ArePrintable lexemes → Each HasNoLine lexemes
    → lexemes_of (text_of lexemes) ≡ lexemes
same_read_back lexemes can none = lines_kept (lexemes_of (text_of lexemes)) lexemes
    (text_reads_back lexemes can ∙ no_lines lexemes none) none
