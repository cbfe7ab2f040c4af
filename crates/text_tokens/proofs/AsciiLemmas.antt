-- The tokens of ASCII bytes from a place on, piece by piece.
use Rattle.std.proofs.Common.{◌≡◌, ◌≢◌, ℕ, zero, suc, ◌+◌, ◌-◌, ◌<◌, ◌≤◌, ◌==◌, Bool, true, false, List, [], ◌∷◌, length, take, drop, count_by, map, slice_index, refl, sym, ap, ◌∙◌, subst, arith, length-drop, eq-eqb}
use Rattle.std.specs.Prelude.{Option, Some, None, is_some, if◌then◌else◌}
use Rattle.std.specs.List.{prefix_len}
use Rattle.std.specs.Str.{IsAscii, chars}
use Rattle.unicode_ident.specs.Ident.{is_xid_continue}
use Rattle.std.proofs.lemmas.Bool.{eqb-true}
use Rattle.std.proofs.lemmas.List.{length-take-le, length-map}
use Rattle.std.proofs.lemmas.Str.{IsAscii-take, IsAscii-drop, IsUtf8-from_ascii, chars-IsAscii, encodes-IsAscii, utf8_valid_len-IsUtf8}
use Rattle.std.proofs.Math.Seq.{take-length, drop-cons}
use Rattle.model_text.specs.Lexemes.{Lexeme, lexeme_at, lexeme_of, bad_lexeme}
use Rattle.model_text.specs.Nesting.{lexemes_of}
use Rattle.model_text.specs.Tokens as model
use Rattle.model_text.specs.Tokens.{word_token, logic_token, literal_token, symbol_token, gap_piece, token_piece, no_piece, bad_token_at, tokens_with, piece_at, characters, place_of, line_of, token_text, token_from, tokens_from, newline, tokens_of, digit_run, digits_piece, logic_length, longer_token, longest_at_front, symbols}
use Rattle.text_tokens.specs.declared.pieces.Start.{Start}
use Rattle.text_tokens.specs.declared.pieces.Start.TheVariants as start
use Rattle.text_tokens.specs.declared.tokens.TokenKind.{TokenKind}
use Rattle.text_tokens.specs.declared.tokens.TokenKind.TheVariants.{Word, LogicName, Number, Literal, Symbol, Bad}
use Rattle.text_tokens.specs.Ascii.{SpaceStands, left_behind}
use Rattle.text_tokens.specs.Lexemes.{meant}
use Rattle.text_tokens.specs.Pieces.{start_of}
use Rattle.text_tokens.specs.Reading.{tokens_left}
use Rattle.text_tokens.specs.Standing.{IsSettled}
use Rattle.text_tokens.specs.Tokens.{kind_of}
use Rattle.text_tokens.proofs.NewlineLemmas.{token_none}
use Rattle.text_tokens.proofs.PositionLemmas.{line_step}
use Rattle.text_tokens.proofs.ReadingLemmas.{left_gap, left_token, left_none, gap_fits, token_fits}
use Rattle.text_tokens.proofs.StartLemmas.{Begins, IsLone, by_start, one_character}

-- a piece at a place ends in the bytes
pub gap_in : (bytes : List ℕ) (from n : ℕ) → from ≤ length bytes
    → gap_piece n ≡ piece_at (drop from bytes) → (0 < n) × (from + n ≤ length bytes)
gap_in bytes from n within e =
    let fits = gap_fits (drop from bytes) n e in
    (fits.0, omega (arith, fits.1, length-drop from bytes, within))

pub token_in : (bytes : List ℕ) (from n : ℕ) (kind : model.TokenKind) → from ≤ length bytes
    → token_piece kind n ≡ piece_at (drop from bytes) → (0 < n) × (from + n ≤ length bytes)
token_in bytes from n kind within e =
    let fits = token_fits (drop from bytes) kind n e in
    (fits.0, omega (arith, fits.1, length-drop from bytes, within))

-- the line behind so many bytes
pub line_behind : (bytes : List ℕ) (line from n : ℕ) → line ≡ line_of bytes from
    → line + count_by (λ b. b == newline) (take n (drop from bytes)) ≡ line_of bytes (from + n)
line_behind bytes line from n e =
    ap (λ l. l + count_by (λ b. b == newline) (take n (drop from bytes))) e
    ∙ ap (λ k. line_of bytes from + count_by (λ b. b == newline) (take k (drop from bytes)))
    (back from n) ∙ sym (line_step bytes from n)
  where
    back : (p q : ℕ) → q ≡ p + q - p
    back p q = omega arith

-- where none of them is a newline, it is the same
same_line : (bytes : List ℕ) (line from n : ℕ) → line ≡ line_of bytes from
    → count_by (λ b. b == newline) (take n (drop from bytes)) ≡ 0
    → line ≡ line_of bytes (from + n)
same_line bytes line from n e none =
    sym (ap (λ k. line + k) none ∙ plus_zero line) ∙ line_behind bytes line from n e
  where
    plus_zero : (n : ℕ) → n + 0 ≡ n
    plus_zero n = omega arith

-- a gap has no token
pub behind_gap : (bytes : List ℕ) (from n : ℕ) → from ≤ length bytes
    → gap_piece n ≡ piece_at (drop from bytes)
    → left_behind bytes (from + n) ≡ left_behind bytes from
behind_gap bytes from n within e =
    let p = gap_in bytes from n within e in
    ap (map lexeme_of) (sym (left_gap bytes bytes from n e p.0 p.1))

-- what begins with the byte at the place
pub byte_drop : (bytes : List ℕ) (place c : ℕ) → place < length bytes → slice_index bytes place ≡ c
    → drop place bytes ≡ c ∷ drop (suc place) bytes
byte_drop bytes place c within is =
    drop-cons bytes place 0 within ∙ ap (λ c. c ∷ drop (suc place) bytes) is

-- which says what stands there
pub byte_starts : (bytes : List ℕ) (place : ℕ) (start : Start) → place < length bytes
    → start ≡ start_of (slice_index bytes place) → Begins (drop place bytes) start
byte_starts bytes place start within e =
    let c = slice_index bytes place in
    subst (Begins (drop place bytes)) (sym e)
    (subst (λ text. Begins text (start_of c)) (sym (byte_drop bytes place c within refl))
    (by_start c (drop (suc place) bytes)))

pub lone_stands : (bytes : List ℕ) (place : ℕ) (start : Start) → place < length bytes
    → start ≡ start_of (slice_index bytes place) → IsLone start
    → token_piece symbol_token 1 ≡ piece_at (drop place bytes)
lone_stands bytes place start within e lone =
    one_character start (drop place bytes) lone ∙ byte_starts bytes place start within e

pub word_stands : (bytes : List ℕ) (place n : ℕ) → place < length bytes
    → start.Word ≡ start_of (slice_index bytes place)
    → n ≡ 1 + prefix_len is_xid_continue (drop 1 (drop place bytes))
    → token_piece word_token n ≡ piece_at (drop place bytes)
word_stands bytes place n within e n_is =
    ap (token_piece word_token) n_is ∙ byte_starts bytes place start.Word within e

pub logic_stands : (bytes : List ℕ) (place n : ℕ) → place < length bytes
    → start.LogicName ≡ start_of (slice_index bytes place) → n ≡ logic_length (drop place bytes)
    → longer_token logic_token n no_piece ≡ piece_at (drop place bytes)
logic_stands bytes place n within e n_is =
    ap (λ n. longer_token logic_token n no_piece) n_is
    ∙ byte_starts bytes place start.LogicName within e

pub symbol_stands : (bytes : List ℕ) (place n : ℕ) → place < length bytes
    → start.Symbol ≡ start_of (slice_index bytes place)
    → n ≡ longest_at_front symbols (drop place bytes)
    → longer_token symbol_token n no_piece ≡ piece_at (drop place bytes)
symbol_stands bytes place n within e n_is =
    ap (λ n. longer_token symbol_token n no_piece) n_is
    ∙ byte_starts bytes place start.Symbol within e

pub digits_stand : (bytes : List ℕ) (place : ℕ) → place < length bytes
    → start.Digit ≡ start_of (slice_index bytes place)
    → digits_piece (digit_run (drop place bytes)) ≡ piece_at (drop place bytes)
digits_stand bytes place within e = byte_starts bytes place start.Digit within e

-- a space is a gap, and no newline
space_drop : (bytes : List ℕ) (place : ℕ) → SpaceStands bytes place
    → drop place bytes ≡ 32 ∷ drop (suc place) bytes
space_drop bytes place is = byte_drop bytes place 32 is.0 is.1

pub space_gap : (bytes : List ℕ) (place : ℕ) → SpaceStands bytes place
    → gap_piece 1 ≡ piece_at (drop place bytes)
unfolding piece_at
space_gap bytes place is = sym (ap piece_at (space_drop bytes place is))

pub space_line : (bytes : List ℕ) (line place : ℕ) → SpaceStands bytes place
    → line ≡ line_of bytes place → line ≡ line_of bytes (place + 1)
space_line bytes line place is e =
    same_line bytes line place 1 e
    (ap (λ l. count_by (λ b. b == newline) (take 1 l)) (space_drop bytes place is))

-- a token comes first
pub token_first : (bytes : List ℕ) (from n : ℕ) (kind : model.TokenKind) → from ≤ length bytes
    → token_piece kind n ≡ piece_at (drop from bytes)
    → left_behind bytes from
    ≡ lexeme_of (token_from bytes bytes from kind n) ∷ left_behind bytes (from + n)
token_first bytes from n kind within e =
    let p = token_in bytes from n kind within e in
    ap (map lexeme_of) (left_token bytes bytes from n kind e p.0 p.1)

-- where the kind is known, a token of it stands at the place
pub of_kind : (bytes : List ℕ) (from n line : ℕ) (k : Option TokenKind) (kind : TokenKind)
    → IsSettled bytes from n line k → k ≡ Some kind → IsSettled bytes from n line (Some kind)
of_kind bytes from n line k kind is e = subst (IsSettled bytes from n line) e is

-- its text and its line are those that the grammar sees
place_is : (bytes : List ℕ) (from : ℕ) → IsAscii bytes → from ≤ length bytes
    → place_of bytes from ≡ from
place_is bytes from ascii within =
    ap length (encodes-IsAscii (take from bytes) (IsAscii-take bytes from ascii))
    ∙ length-take-le from bytes within

pub own_ascii : (bytes : List ℕ) (from n : ℕ) → IsAscii bytes → IsAscii (take n (drop from bytes))
own_ascii bytes from n ascii = IsAscii-take (drop from bytes) n (IsAscii-drop bytes from ascii)

-- the list begins with what its first item is
begins : (whole rest : List Lexeme) (first seen : Lexeme) → whole ≡ first ∷ rest → first ≡ seen
    → whole ≡ seen ∷ drop 1 whole
begins whole rest first seen e f =
    e ∙ ap (λ x. x ∷ rest) f ∙ ap (λ l. seen ∷ drop 1 l) (sym e)

plain_text : (kind : TokenKind) (own : List ℕ) → kind ≢ Literal → IsAscii own
    → token_text (kind_of kind) own ≡ meant kind false own
plain_text Word own other ascii = encodes-IsAscii own ascii
plain_text LogicName own other ascii = encodes-IsAscii own ascii
plain_text Number own other ascii = encodes-IsAscii own ascii
plain_text Literal own other ascii = absurd (other refl)
plain_text Symbol own other ascii = encodes-IsAscii own ascii
plain_text Bad own other ascii = encodes-IsAscii own ascii

-- the first token, whose text this is
seen_first : (bytes : List ℕ) (from n line : ℕ) (kind : TokenKind) (written : Bool) (text : List ℕ)
    → IsSettled bytes from n line (Some kind)
    → token_text (kind_of kind) (take n (drop from bytes)) ≡ meant kind written text
    → left_behind bytes from
    ≡ lexeme_at (kind_of kind) (meant kind written text) line ∷ drop 1 (left_behind bytes from)
seen_first bytes from n line kind written text is e =
    begins (left_behind bytes from) _ _ _
    (token_first bytes from n (kind_of kind) is.within is.stands)
    (ap (λ t. lexeme_at (kind_of kind) t (line_of bytes (place_of bytes from))) e
    ∙ ap (λ p. lexeme_at (kind_of kind) (meant kind written text) (line_of bytes p))
    (place_is bytes from is.ascii is.within)
    ∙ ap (lexeme_at (kind_of kind) (meant kind written text)) (sym is.line_is))

pub plain_first : (bytes : List ℕ) (from n line : ℕ) (kind : TokenKind)
    → IsSettled bytes from n line (Some kind) → kind ≢ Literal
    → left_behind bytes from
    ≡ lexeme_at (kind_of kind) (meant kind false (take n (drop from bytes))) line
    ∷ drop 1 (left_behind bytes from)
plain_first bytes from n line kind is other =
    seen_first bytes from n line kind false (take n (drop from bytes)) is
    (plain_text kind (take n (drop from bytes)) other (own_ascii bytes from n is.ascii))

pub literal_first : (bytes : List ℕ) (from n line : ℕ)
    → IsSettled bytes from n line (Some Literal)
    → left_behind bytes from
    ≡ lexeme_at literal_token (meant Literal true (take (length (take n (drop from bytes)) - 2)
    (drop 1 (take n (drop from bytes))))) line ∷ drop 1 (left_behind bytes from)
literal_first bytes from n line is =
    seen_first bytes from n line Literal true (take (length (take n (drop from bytes)) - 2)
    (drop 1 (take n (drop from bytes)))) is refl

pub of_none : (bytes : List ℕ) (from n line : ℕ) (k : Option TokenKind)
    → IsSettled bytes from n line k → k ≡ None → IsSettled bytes from n line None
of_none bytes from n line k is e = subst (IsSettled bytes from n line) e is

-- where no token begins, none is left at the end of the bytes, and else a bad one
pub none_left : (bytes : List ℕ) (from n line : ℕ) → IsSettled bytes from n line None
    → from ≡ length bytes → left_behind bytes from ≡ []
none_left bytes from n line is end = ap (map lexeme_of)
    (left_none bytes bytes from true is.stands (eq-eqb (place_of bytes from) (length bytes)
    (place_is bytes from is.ascii is.within ∙ end)))

pub bad_left : (bytes : List ℕ) (from n line : ℕ) → IsSettled bytes from n line None
    → (from ≡ length bytes → ⊥) → left_behind bytes from ≡ bad_lexeme ∷ []
bad_left bytes from n line is before_end = ap (map lexeme_of)
    (left_none bytes bytes from false is.stands (other (place_of bytes from == length bytes) refl))
  where
    other : (b : Bool) → (place_of bytes from == length bytes) ≡ b
        → (place_of bytes from == length bytes) ≡ false
    other true test = absurd (before_end (sym (place_is bytes from is.ascii is.within)
        ∙ eqb-true (place_of bytes from) (length bytes) test))
    other false test = test

pub bad_first : (bytes : List ℕ) (from n line : ℕ) → IsSettled bytes from n line None
    → (from ≡ length bytes → ⊥)
    → left_behind bytes from ≡ bad_lexeme ∷ drop 1 (left_behind bytes from)
bad_first bytes from n line is before_end =
    begins (left_behind bytes from) [] bad_lexeme bad_lexeme
    (bad_left bytes from n line is before_end) refl

-- the tokens of all the bytes
sub_zero : (n : ℕ) → n - 0 ≡ n
sub_zero n = omega arith

ascii_characters : (bytes : List ℕ) → IsAscii bytes → characters bytes ≡ bytes
unfolding characters
ascii_characters bytes ascii =
    ap (λ n. chars (take n bytes)) (utf8_valid_len-IsUtf8 bytes (IsUtf8-from_ascii bytes ascii))
    ∙ ap chars (take-length bytes) ∙ chars-IsAscii bytes ascii

pub all_left : (bytes : List ℕ) → IsAscii bytes → left_behind bytes 0 ≡ lexemes_of bytes
unfolding tokens_of
all_left bytes ascii =
    ap (λ text. map lexeme_of (tokens_left bytes text 0)) (sym (ascii_characters bytes ascii))
    ∙ ap (λ n. map lexeme_of (tokens_from bytes (characters bytes) (suc n) 0))
    (sub_zero (length (characters bytes)))

-- of no bytes there are none
pub nothing_left : left_behind [] 0 ≡ []
unfolding piece_at tokens_from
nothing_left = refl

-- where no token begins, none is left behind a bad one
pub none_behind : (bytes : List ℕ) (from n line : ℕ) → IsSettled bytes from n line None
    → drop 1 (left_behind bytes from) ≡ []
none_behind bytes from n line is = by_test (place_of bytes from == length bytes) refl
  where
    by_test : (b : Bool) → (place_of bytes from == length bytes) ≡ b
        → drop 1 (left_behind bytes from) ≡ []
    by_test true test =
        ap (λ l. drop 1 (map lexeme_of l)) (left_none bytes bytes from true is.stands test)
    by_test false test =
        ap (λ l. drop 1 (map lexeme_of l)) (left_none bytes bytes from false is.stands test)

-- a token that isn't absent has a kind, and ends in the bytes
pub some_in : (bytes : List ℕ) (from n line : ℕ) (k : Option TokenKind)
    → IsSettled bytes from n line k → k ≢ None
    → (from + n ≤ length bytes) × (left_behind bytes (from + n) ≡ drop 1 (left_behind bytes from))
some_in bytes from n line None is some = absurd (some refl)
some_in bytes from n line (Some kind) is some =
    let p = token_in bytes from n (kind_of kind) is.within is.stands in
    (p.1, ap (drop 1) (sym (token_first bytes from n (kind_of kind) is.within is.stands)))

-- on the line on which it begins
pub token_line : (bytes : List ℕ) (from n line : ℕ) (k : Option TokenKind)
    → IsSettled bytes from n line k → k ≢ None → line ≡ line_of bytes (from + n)
token_line bytes from n line None is some = absurd (some refl)
token_line bytes from n line (Some kind) is some =
    same_line bytes line from n is.line_is
    (token_none (drop from bytes) (kind_of kind) n is.stands)

-- a kind that is there isn't absent
pub has_kind : (k : Option TokenKind) → is_some k ≡ true → k ≢ None
has_kind k e none = let no : is_some k ≡ false = ap is_some none in cc

-- there are no more than there are steps
pub few_from : (bytes text : List ℕ) (steps number : ℕ)
    → length (tokens_from bytes text steps number) ≤ steps
unfolding tokens_from
few_from bytes text zero number = omega arith
few_from bytes text (suc steps) number =
    by_piece (piece_at (drop number text)) (few_from bytes text steps)
  where
    by_end : (b : Bool) → length (if b then [] else bad_token_at bytes text number ∷ []) ≤ suc steps
    by_end true = omega arith
    by_end false = omega arith

    by_piece : (p : model.Piece) → ((n : ℕ) → length (tokens_from bytes text steps n) ≤ steps)
        → length (tokens_with bytes text number p (tokens_from bytes text steps)) ≤ suc steps
    by_piece (gap_piece n) few = omega (arith, few (number + n))
    by_piece (token_piece kind n) few = omega (arith, few (number + n))
    by_piece no_piece few = by_end (place_of text number == length bytes)

-- so they are few
pub few_left : (bytes : List ℕ) (from n line : ℕ) (k : Option TokenKind)
    → IsSettled bytes from n line k → length (left_behind bytes from) < 4294967296
few_left bytes from n line k is = omega (
  arith,
  length-map (tokens_left bytes bytes from) lexeme_of,
  few_from bytes bytes (suc (length bytes - from)) from,
  is.bounded,
)
