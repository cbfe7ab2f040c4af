-- Where a text is UTF-8, so is each text whose literal is printed in it: what is printed for a
-- literal stands between two bytes of ASCII.
use Rattle.std.proofs.Common.{◌≡◌, ℕ, zero, suc, ◌+◌, ◌<◌, ◌==◌, Bool, true, false, cond, List, [], ◌∷◌, ◌++◌, length, get_or, drop, refl, sym, ap, ◌∙◌, subst, append_assoc, length-append, arith, lit<}
use Rattle.std.specs.Str.{IsUtf8}
use Rattle.std.proofs.Math.Seq.{get_or-append_seam}
use Rattle.std.proofs.lemmas.Bool.{eqb-true}
use Rattle.std.proofs.lemmas.List.{drop_at, take_at}
use Rattle.std.proofs.lemmas.Str.{IsUtf8-nil, IsUtf8-append, IsUtf8-from_ascii, IsUtf8-take, IsUtf8-drop, IsCharBoundary-before_ascii, IsCharBoundary-after_ascii}
use Rattle.model_text.specs.Tokens.{newline, quote, backslash, letter_n}
use Rattle.model_text.specs.Lexemes.{Lexeme, terminal, step_word, name_lexeme, logic_lexeme, number_lexeme, literal_lexeme, bad_lexeme}
use Rattle.model_documents.specs.Printed.{escaped, quoted}
use Rattle.model_grammar.specs.Writing.{printed, spaced, text_of}
use Rattle.model_grammar.specs.TheoryWriting.{text_of_lines}
use Rattle.model_grammar.specs.Writable.{Each}
use Rattle.model_round_trip.specs.Literals.{LiteralIsUtf8, LiteralsAreUtf8}

-- a byte of ASCII is a text
ascii : (x : ℕ) → x < 128 → IsUtf8 (x ∷ [])
ascii x low = IsUtf8-from_ascii (x ∷ []) each
  where
    each : (i : ℕ) → get_or (x ∷ []) i 0 < 128
    each zero = low
    each (suc i) = omega arith

-- a text is cut beside it
beside : (front : List ℕ) (x : ℕ) (rest : List ℕ) → x < 128 → IsUtf8 (front ++ (x ∷ rest))
    → IsUtf8 front × IsUtf8 rest
beside front x rest low utf8 =
    let bytes : List ℕ = front ++ (x ∷ rest) in
    let n : ℕ = length front in
    let within : n < length bytes = omega (arith, length-append front (x ∷ rest)) in
    let here : get_or bytes n 0 ≡ x = get_or-append_seam front x rest 0 in
    let small : get_or bytes n 0 < 128 = omega (arith, here) in
    let behind : drop (n + 1) bytes ≡ rest =
    ap (drop (n + 1)) (sym (append_assoc front (x ∷ []) rest))
    ∙ drop_at (front ++ (x ∷ [])) rest (n + 1) (length-append front (x ∷ [])) in (
      subst IsUtf8 (take_at front (x ∷ rest) n refl)
          (IsUtf8-take bytes n utf8 (IsCharBoundary-before_ascii bytes n within small)),
      subst IsUtf8 behind
          (IsUtf8-drop bytes (n + 1) utf8 (IsCharBoundary-after_ascii bytes n utf8 within small)),
    )

-- ---- a literal

escape_undone : (front text : List ℕ) (x letter : ℕ) → x < 128 → letter < 128
    → (IsUtf8 (escaped text) → IsUtf8 text)
    → IsUtf8 (front ++ (backslash ∷ letter ∷ escaped text)) → IsUtf8 (front ++ (x ∷ text))
escape_undone front text x letter low small again utf8 =
    let escape = beside front backslash (letter ∷ escaped text) (lit< tt) utf8 in
    let rest = beside [] letter (escaped text) small escape.1 in
    IsUtf8-append front (x ∷ text) escape.0
    (IsUtf8-append (x ∷ []) text (ascii x low) (again rest.1))

byte_undone : (front text : List ℕ) (x : ℕ) (is_quote is_backslash is_newline : Bool)
    → (x == quote) ≡ is_quote → (x == backslash) ≡ is_backslash → (x == newline) ≡ is_newline
    → (IsUtf8 (escaped text) → IsUtf8 text)
    → (IsUtf8 ((front ++ (x ∷ [])) ++ escaped text) → IsUtf8 ((front ++ (x ∷ [])) ++ text))
    → IsUtf8 (front ++ (cond is_quote (backslash ∷ quote ∷ [])
    (cond is_backslash (backslash ∷ backslash ∷ [])
    (cond is_newline (backslash ∷ letter_n ∷ []) (x ∷ []))) ++ escaped text))
    → IsUtf8 (front ++ (x ∷ text))
byte_undone front text x true b n e f g again longer utf8 =
    escape_undone front text x quote (omega (arith, eqb-true x quote e)) (lit< tt) again utf8
byte_undone front text x false true n e f g again longer utf8 =
    escape_undone front text x backslash (omega (arith, eqb-true x backslash f)) (lit< tt) again
    utf8
byte_undone front text x false false true e f g again longer utf8 =
    escape_undone front text x letter_n (omega (arith, eqb-true x newline g)) (lit< tt) again utf8
byte_undone front text x false false false e f g again longer utf8 =
    subst IsUtf8 (append_assoc front (x ∷ []) text)
    (longer (subst IsUtf8 (sym (append_assoc front (x ∷ []) (escaped text))) utf8))

unescaped : (front text : List ℕ) → IsUtf8 (front ++ escaped text) → IsUtf8 (front ++ text)
unescaped front [] utf8 = utf8
unescaped front (x ∷ text) utf8 =
    byte_undone front text x (x == quote) (x == backslash) (x == newline) refl refl refl
    (unescaped [] text) (unescaped (front ++ (x ∷ [])) text) utf8

-- what is quoted in a text, and what stands behind it
pub in_quotes : (text behind : List ℕ) → IsUtf8 (quoted text ++ behind)
    → IsUtf8 text × IsUtf8 behind
in_quotes text behind utf8 =
    let inside = (beside [] quote ((escaped text ++ (quote ∷ [])) ++ behind) (lit< tt) utf8).1 in
    let cut = beside (escaped text) quote behind (lit< tt)
    (subst IsUtf8 (append_assoc (escaped text) (quote ∷ []) behind) inside) in
    (unescaped [] text cut.0, cut.1)

-- ---- lexemes

behind_printed : (front : List ℕ) (rest : List Lexeme) → IsUtf8 (front ++ spaced rest)
    → IsUtf8 (spaced rest)
behind_printed front [] utf8 = IsUtf8-nil
behind_printed front (x ∷ rest) utf8 =
    let cut = beside front 32 (printed x ++ spaced rest) (lit< tt) utf8 in
    IsUtf8-append (32 ∷ []) (printed x ++ spaced rest) (ascii 32 (lit< tt)) cut.1

first_printed : (x : Lexeme) (rest : List Lexeme) → IsUtf8 (printed x ++ spaced rest)
    → LiteralIsUtf8 x × IsUtf8 (spaced rest)
first_printed (literal_lexeme text) rest utf8 = in_quotes text (spaced rest) utf8
first_printed (terminal text) rest utf8 = (tt, behind_printed text rest utf8)
first_printed (step_word line) rest utf8 =
    (tt, behind_printed (printed (step_word line)) rest utf8)
first_printed (name_lexeme name) rest utf8 = (tt, behind_printed name rest utf8)
first_printed (logic_lexeme name) rest utf8 = (tt, behind_printed name rest utf8)
first_printed (number_lexeme n) rest utf8 =
    (tt, behind_printed (printed (number_lexeme n)) rest utf8)
first_printed bad_lexeme rest utf8 = (tt, utf8)

pub spaced_literals : (lexemes : List Lexeme) → IsUtf8 (spaced lexemes) → LiteralsAreUtf8 lexemes
spaced_literals [] utf8 = tt
spaced_literals (x ∷ rest) utf8 =
    let first = first_printed x rest (beside [] 32 (printed x ++ spaced rest) (lit< tt) utf8).1 in
    (first.0, spaced_literals rest first.1)

-- of a line, and of lines
line_literals : (lexemes : List Lexeme) → IsUtf8 (text_of lexemes) → LiteralsAreUtf8 lexemes
line_literals [] utf8 = tt
line_literals (x ∷ rest) utf8 =
    let first = first_printed x rest utf8 in (first.0, spaced_literals rest first.1)

pub lines_literals : (lines : List (List Lexeme)) → IsUtf8 (text_of_lines lines)
    → Each LiteralsAreUtf8 lines
lines_literals [] utf8 = tt
lines_literals (line ∷ lines) utf8 =
    let cut = beside (text_of line) newline (text_of_lines lines) (lit< tt) utf8 in
    (line_literals line cut.0, lines_literals lines cut.1)
