-- Each lexeme of a text but a bad one can be printed.
use Rattle.std.proofs.Common.{◌≡◌, ◌≢◌, ℕ, zero, suc, ◌+◌, ◌-◌, ◌≤◌, ◌==◌, Bool, true, false, List, [], ◌∷◌, length, map, take, drop, Some, encode_utf8_all, codes, bytes_eq, nat_le, refl, sym, subst, ◌∙◌, ap, arith, inl, inr}
use Rattle.std.specs.Prelude.{if◌then◌else◌, ◌⊎◌, slice_get}
use Rattle.std.proofs.Math.Utf8.{scalars}
use Rattle.std.proofs.lemmas.Bool.{and_parts}
use Rattle.std.proofs.lemmas.Bool.Decides.{nat_tests}
use Rattle.std.proofs.lemmas.List.{append-nil, take-append-drop, length-take-le}
use Rattle.std.specs.Char.{is_ascii_digit}
use Rattle.std.specs.List.{list_all}
use Rattle.std.specs.Str.Parse.{digits_value}
use Rattle.model_limits.specs.Limits.{standard_limits}
use Rattle.model_text.specs.Lexemes.{Lexeme, terminal, step_word, name_lexeme, logic_lexeme, number_lexeme, literal_lexeme, bad_lexeme, lexeme_at, lexeme_of, is_reserved}
use Rattle.model_text.specs.Tokens.{Token, TokenKind, word_token, logic_token, number_token, literal_token, symbol_token, bad_token, Piece, gap_piece, token_piece, no_piece, digits_fit, unescaped, piece_at, token_text, characters, place_of, line_of, bad_token_at, tokens_with, tokens_from, tokens_of}
use Rattle.model_text.specs.Nesting.{lexemes_of}
use Rattle.model_text.specs.FaultTokens.{IsOfToken}
use Rattle.model_text.proofs.Pieces.{Fits, piece_at-Fits}
use Rattle.model_grammar.specs.Writable.{Each, IsName, IsLogicName}
use Rattle.model_printing.specs.Printable.{IsPrintable, HasNoLine, without_line}
use Rattle.model_printing.proofs.Alone.{IsToken, token_alone}
use Rattle.model_printing.proofs.Reading.{lexemes_in, token_in, nothing_in, lexemes_of_characters}
use Rattle.model_printing.proofs.Scalars.{scalars_take, scalars_drop, scalars_unescaped, scalars_characters}

-- the lexeme of some characters that are a token
pub record OfToken (lexeme : Lexeme) : Type 0 where
  pub kind : TokenKind
  pub own : List ℕ
  pub line : ℕ
  pub valid : scalars own ≡ true
  pub token : IsToken kind own
  pub is : lexeme ≡ lexeme_at kind (token_text kind own) line

-- it is that, or bad
abbrev pub IsFound : Lexeme → Type 0
IsFound lexeme = (lexeme ≡ bad_lexeme) ⊎ OfToken lexeme

-- EACH LEXEME OF A TEXT
own_token : (kind : TokenKind) (n : ℕ) (text : List ℕ) → piece_at text ≡ token_piece kind n
    → IsToken kind (take n text)
own_token kind n text e = let within : n ≤ length text =
    (subst (Fits text) e (piece_at-Fits text)).1 in
    token_alone kind (take n text) (drop n text)
    (ap piece_at (take-append-drop n text) ∙ e
    ∙ ap (token_piece kind) (sym (length-take-le n text within)))

module _ (bytes text : List ℕ) (valid : scalars text ≡ true) where
  with_piece : (number : ℕ) (piece : Piece) (others : ℕ → List Token)
      → piece_at (drop number text) ≡ piece
      → ((n : ℕ) → Each IsFound (map lexeme_of (others n)))
      → Each IsFound (map lexeme_of (tokens_with bytes text number piece others))
  with_piece number (gap_piece n) others e each = each (number + n)
  with_piece number (token_piece kind n) others e each = (
    inr (record {
      kind = kind;
      own = take n (drop number text);
      line = line_of bytes (place_of text number);
      valid = scalars_take n (drop number text) (scalars_drop number text valid);
      token = own_token kind n (drop number text) e;
      is = refl;
    }),
    each (number + n),
  )
  with_piece number no_piece others e each = by_end (place_of text number == length bytes)
    where
      by_end : (b : Bool)
          → Each IsFound (map lexeme_of (if b then [] else bad_token_at bytes text number ∷ []))
      by_end true = tt
      by_end false = (inl refl, tt)

  each_found : (steps number : ℕ)
      → Each IsFound (map lexeme_of (tokens_from bytes text steps number))
  unfolding tokens_from
  each_found zero number = tt
  each_found (suc steps) number =
      with_piece number (piece_at (drop number text)) (tokens_from bytes text steps) refl
      (each_found steps)

all_found : (bytes : List ℕ) → Each IsFound (lexemes_of bytes)
unfolding tokens_of
all_found bytes = each_found bytes (characters bytes) (scalars_characters bytes)
    (suc (length (characters bytes))) 0

found_at : (lexemes : List Lexeme) (place : ℕ) (lexeme : Lexeme) → Each IsFound lexemes
    → slice_get lexemes place ≡ Some lexeme → IsFound lexeme
found_at [] place lexeme each e = absurd cc
found_at (first ∷ rest) zero lexeme each e =
    let same : first ≡ lexeme = cc in subst IsFound same each.0
found_at (first ∷ rest) (suc place) lexeme each e = found_at rest place lexeme each.1 e

pub token_found : (lexeme : Lexeme) → IsOfToken lexeme → IsFound lexeme
token_found lexeme so =
    found_at (lexemes_of so.bytes) so.place lexeme (all_found so.bytes) so.found

-- LINES
pub line_kept : (a b : Lexeme) → without_line a ≡ b → HasNoLine b → a ≡ b
line_kept (terminal text) b e none = e
line_kept (step_word line) b e none = absurd (subst HasNoLine (sym e) none)
line_kept (name_lexeme name) b e none = e
line_kept (logic_lexeme name) b e none = e
line_kept (number_lexeme n) b e none = e
line_kept (literal_lexeme text) b e none = e
line_kept bad_lexeme b e none = e

pub lines_kept : (a b : List Lexeme) → map without_line a ≡ b → Each HasNoLine b → a ≡ b
lines_kept [] b e none = e
lines_kept (x ∷ a) [] e none = absurd cc
lines_kept (x ∷ a) (y ∷ b) e none = let first : without_line x ≡ y = cc in
    let rest : map without_line a ≡ b = cc in
    λ i. line_kept x y first none.0 i ∷ lines_kept a b rest none.1 i

-- EACH CAN BE PRINTED
-- a token is the only token of its own bytes
pub only_token : (kind : TokenKind) (own : List ℕ) → scalars own ≡ true → IsToken kind own
    → map without_line (lexemes_of (encode_utf8_all own))
    ≡ without_line (lexeme_at kind (token_text kind own) 0) ∷ []
only_token kind own valid token = lexemes_of_characters own valid
    ∙ ap lexemes_in (sym (append-nil own))
    ∙ token_in kind own [] (ap piece_at (append-nil own) ∙ token)
    ∙ ap (λ rest. without_line (lexeme_at kind (token_text kind own) 0) ∷ rest) nothing_in

-- a lexeme is bad, or can be printed
abbrev pub CanBePrinted : Lexeme → Type 0
CanBePrinted lexeme = (lexeme ≡ bad_lexeme) ⊎ IsPrintable lexeme

word_printable : (own : List ℕ) (line : ℕ) (a b : Bool)
    → map without_line (lexemes_of own) ≡ without_line (if a then step_word 0
    else (if b then terminal own else name_lexeme own)) ∷ []
    → IsPrintable (if a then step_word line else (if b then terminal own else name_lexeme own))
word_printable own line true b e = tt
word_printable own line false true e = lines_kept _ _ e (tt, tt)
word_printable own line false false e = lines_kept _ _ e (tt, tt)

number_printable : (own : List ℕ) (b : Bool) → digits_fit own ≡ b
    → CanBePrinted (if b then number_lexeme (digits_value 10 own) else bad_lexeme)
number_printable own true e = inr (at_most
    (and_parts (list_all is_ascii_digit own)
    (nat_le (digits_value 10 own) standard_limits.integer) e).1)
  where
    at_most : nat_le (digits_value 10 own) standard_limits.integer ≡ true
        → digits_value 10 own ≤ standard_limits.integer
    at_most e = grind (arith, nat_tests)
number_printable own false e = inl refl

kind_printable : (kind : TokenKind) (own : List ℕ) (line : ℕ) → scalars own ≡ true
    → map without_line (lexemes_of (encode_utf8_all own))
    ≡ without_line (lexeme_at kind (token_text kind own) 0) ∷ []
    → CanBePrinted (lexeme_at kind (token_text kind own) line)
kind_printable word_token own line valid e = inr (word_printable (encode_utf8_all own) line
    (bytes_eq (encode_utf8_all own) (codes "step")) (is_reserved (encode_utf8_all own)) e)
kind_printable logic_token own line valid e = inr (lines_kept _ _ e (tt, tt))
kind_printable number_token own line valid e =
    number_printable (encode_utf8_all own) (digits_fit (encode_utf8_all own)) refl
kind_printable literal_token own line valid e = inr (
  unescaped false (take (length own - 2) (drop 1 own)),
  (
    scalars_unescaped false (take (length own - 2) (drop 1 own))
        (scalars_take (length own - 2) (drop 1 own) (scalars_drop 1 own valid)),
    refl,
  ),
)
kind_printable symbol_token own line valid e = inr (lines_kept _ _ e (tt, tt))
kind_printable bad_token own line valid e = inl refl

-- so what is found can
found_printable : (lexeme : Lexeme) → IsFound lexeme → CanBePrinted lexeme
found_printable lexeme (inl bad) = inl bad
found_printable lexeme (inr so) = subst CanBePrinted (sym so.is)
    (kind_printable so.kind so.own so.line so.valid
    (only_token so.kind so.own so.valid so.token))

pub token_printable : (lexeme : Lexeme) → IsOfToken lexeme → CanBePrinted lexeme
token_printable lexeme so = found_printable lexeme (token_found lexeme so)

pub good_printable : (lexeme : Lexeme) → lexeme ≢ bad_lexeme → IsOfToken lexeme
    → IsPrintable lexeme
good_printable lexeme good so = by_case (token_printable lexeme so)
  where
    by_case : CanBePrinted lexeme → IsPrintable lexeme
    by_case (inl bad) = absurd (good bad)
    by_case (inr can) = can

-- a name in a text is one, and so is one of the logic
pub name_of_token : (name : List ℕ) → IsOfToken (name_lexeme name) → IsName name
name_of_token name so = good_printable (name_lexeme name) (λ e. cc) so

pub logic_of_token : (name : List ℕ) → IsOfToken (logic_lexeme name) → IsLogicName name
logic_of_token name so = good_printable (logic_lexeme name) (λ e. cc) so
