-- The tokens of a text: what they are, and which ones the bytes of a file have.
-- A text is a list of characters, each given by its code; what stands at its front has a length,
-- which is a number of characters, and 0 where it doesn't stand there.
use Rattle.model_limits.specs.Limits.{standard_limits}
use Rattle.std.specs.Prelude.{ℕ, zero, suc, ◌+◌, ◌-◌, max, Bool, true, false, not, ◌&&◌, ◌||◌, List, [], ◌∷◌, length, take, drop, bytes_eq, codes, nat_eq, nat_lt, nat_le, ◌==◌, if◌then◌else◌, encode_utf8_all, count_by}
use Rattle.std.specs.Char.{is_ascii_digit}
use Rattle.std.specs.List.{list_all, prefix_len, starts_with}
use Rattle.std.specs.Str.{chars}
use Rattle.std.specs.Str.Lossy.{utf8_valid_len}
use Rattle.std.specs.Str.Parse.{digits_value}
use Rattle.unicode_ident.specs.Ident.{is_xid_start, is_xid_continue}

-- the kinds of tokens; a bad token stands where no token begins
pub data TokenKind : Type 0 where
  word_token logic_token number_token literal_token symbol_token bad_token : TokenKind

-- A token. Its text is what a literal stands for, empty for a bad token, and else its own bytes.
-- Its first byte stands at the place start, counted from 0, and finish is the place after its last
-- byte, or start for a bad token. Its line is 1 and the newline bytes before start.
pub record Token : Type 0 where
  pub kind : TokenKind
  pub text : List ℕ
  pub start : ℕ
  pub finish : ℕ
  pub line : ℕ

-- the codes of characters that the rules name
abbrev pub newline : ℕ
newline = 10

abbrev pub quote : ℕ
quote = 34

abbrev pub dollar : ℕ
dollar = 36

abbrev pub backslash : ℕ
backslash = 92

abbrev pub underscore : ℕ
underscore = 95

abbrev pub letter_n : ℕ
letter_n = 110

-- space, tab, carriage return and newline separate tokens and mean nothing else
abbrev pub is_blank : ℕ → Bool
is_blank character = ((character == 32) || (character == 9))
    || ((character == 13) || (character == newline))

-- `//` begins a comment, which ends before the next newline or at the end
abbrev pub comment_length : List ℕ → ℕ
comment_length text = prefix_len (λ character. not (character == newline)) text

-- a word is a character of XID_Start or `_` and then characters of XID_Continue
abbrev pub starts_word : ℕ → Bool
starts_word character = is_xid_start character || (character == underscore)

abbrev pub word_length : List ℕ → ℕ
word_length [] = 0
word_length (first ∷ rest) = if starts_word first then 1 + prefix_len is_xid_continue rest else 0

-- a logic name is `$` and a word
abbrev pub logic_length : List ℕ → ℕ
logic_length [] = 0
logic_length (first ∷ rest) =
    if (first == dollar) && nat_lt 0 (word_length rest) then 1 + word_length rest else 0

-- `\"`, `\\` and `\n` are the escapes in a literal
abbrev pub is_escape : ℕ → Bool
is_escape character = (character == quote) || ((character == backslash) || (character == letter_n))

-- The length of a literal of which so many characters stand before the text, the last of them a
-- backslash that escapes or not: up to the closing quote, and 0 where it isn't finished, has a raw
-- newline or another escape.
abbrev pub literal_end : Bool → ℕ → List ℕ → ℕ
literal_end escaped before [] = 0
literal_end true before (first ∷ rest) =
    if is_escape first then literal_end false (before + 1) rest else 0
literal_end false before (first ∷ rest) = if first == quote then before + 1
    else (if first == newline then 0 else literal_end (first == backslash) (before + 1) rest)

-- a text literal
abbrev pub literal_length : List ℕ → ℕ
literal_length [] = 0
literal_length (first ∷ rest) = if first == quote then literal_end false 1 rest else 0

-- the characters that those between the quotes stand for, after a backslash that escapes or not
abbrev pub unescaped : Bool → List ℕ → List ℕ
unescaped escaped [] = []
unescaped true (first ∷ rest) =
    (if first == letter_n then newline else first) ∷ unescaped false rest
unescaped false (first ∷ rest) =
    if first == backslash then unescaped true rest else first ∷ unescaped false rest

-- the symbols, but for `0f` and `0g`, which begin with a digit
unfoldable pub symbols : List (List ℕ)
symbols = codes "(" ∷ codes ")" ∷ codes "[" ∷ codes "]" ∷ codes "{" ∷ codes "}" ∷ codes "<"
    ∷ codes ">" ∷ codes "," ∷ codes ";" ∷ codes ":" ∷ codes "." ∷ codes ":=" ∷ codes "="
    ∷ codes "<=" ∷ codes "#" ∷ codes "%" ∷ codes "+" ∷ codes "++" ∷ codes "-" ∷ codes "-o"
    ∷ codes "->" ∷ codes "*" ∷ codes ".*" ∷ codes "*." ∷ codes ".+" ∷ codes "@t" ∷ codes "@f"
    ∷ codes "@g" ∷ codes "o-t" ∷ codes "o-f" ∷ codes "o-g" ∷ codes "?t" ∷ codes "?f" ∷ codes "?g"
    ∷ []

-- the length of the symbol
abbrev pub length_at_front : List ℕ → List ℕ → ℕ
length_at_front text symbol = if starts_with nat_eq text symbol then length symbol else 0

-- the length of the longest of the symbols
abbrev pub longest_at_front : List (List ℕ) → List ℕ → ℕ
longest_at_front [] text = 0
longest_at_front (symbol ∷ others) text =
    max (length_at_front text symbol) (longest_at_front others text)

-- a digit begins the longest run of digits and characters of XID_Continue
abbrev pub in_digit_run : ℕ → Bool
in_digit_run character = is_ascii_digit character || is_xid_continue character

abbrev pub digit_run : List ℕ → List ℕ
digit_run text = take (prefix_len in_digit_run text) text

-- a 0 stands before another character
abbrev pub leading_zero : List ℕ → Bool
leading_zero [] = false
leading_zero (first ∷ []) = false
leading_zero (first ∷ second ∷ rest) = first == 48

-- these are digits, and the number that they write is at most 9,223,372,036,854,775,807
abbrev pub digits_fit : List ℕ → Bool
digits_fit run = list_all is_ascii_digit run && nat_le (digits_value 10 run) standard_limits.integer

-- a number is digits that fit, with no leading zero but in `0` itself
abbrev pub is_number : List ℕ → Bool
is_number run = not (leading_zero run) && digits_fit run

-- what stands at the front of a text, with its length
pub data Piece : Type 0 where
  -- a blank or a comment
  gap_piece : ℕ → Piece
  -- a token of the kind
  token_piece : TokenKind → ℕ → Piece
  -- neither: no token begins there
  no_piece : Piece

abbrev pub piece_length : Piece → ℕ
piece_length (gap_piece count) = count
piece_length (token_piece kind count) = count
piece_length no_piece = 0

-- a run that a digit begins must be `0f`, `0g` or a number
abbrev pub digits_piece : List ℕ → Piece
digits_piece run = if bytes_eq run (codes "0f") || bytes_eq run (codes "0g")
    then token_piece symbol_token (length run)
    else (if is_number run then token_piece number_token (length run) else no_piece)

-- a token of the kind and the length, if it is longer than the other piece
abbrev pub longer_token : TokenKind → ℕ → Piece → Piece
longer_token kind count other =
    if nat_lt (piece_length other) count then token_piece kind count else other

-- the longest token of a text that begins with no digit
abbrev pub longest_token : List ℕ → Piece
longest_token text =
    longer_token word_token (word_length text)
    (longer_token logic_token (logic_length text)
    (longer_token literal_token (literal_length text)
    (longer_token symbol_token (longest_at_front symbols text) no_piece)))

-- what stands at the front of the text
unfoldable pub piece_at : List ℕ → Piece
piece_at [] = no_piece
piece_at (first ∷ rest) = if is_blank first then gap_piece 1
    else (if starts_with nat_eq (first ∷ rest) (codes "//")
    then gap_piece (comment_length (first ∷ rest))
    else (if is_ascii_digit first then digits_piece (digit_run (first ∷ rest))
    else longest_token (first ∷ rest)))

-- the characters of the longest prefix of the bytes that is UTF-8
unfoldable pub characters : List ℕ → List ℕ
characters bytes = chars (take (utf8_valid_len bytes) bytes)

-- the place in the bytes at which the character of this number begins, both counted from 0
abbrev pub place_of : List ℕ → ℕ → ℕ
place_of text number = length (encode_utf8_all (take number text))

-- the line of the place: 1 and the newline bytes before it
abbrev pub line_of : List ℕ → ℕ → ℕ
line_of bytes place = 1 + count_by (λ byte. byte == newline) (take place bytes)

-- the text of a token of the kind that has these characters
abbrev pub token_text : TokenKind → List ℕ → List ℕ
token_text literal_token own =
    encode_utf8_all (unescaped false (take (length own - 2) (drop 1 own)))
token_text kind own = encode_utf8_all own

-- the token of the kind and the length from the character of this number on
abbrev pub token_from : List ℕ → List ℕ → ℕ → TokenKind → ℕ → Token
token_from bytes text number kind count = record {
  kind = kind;
  text = token_text kind (take count (drop number text));
  start = place_of text number;
  finish = place_of text (number + count);
  line = line_of bytes (place_of text number);
}

-- the bad token at the character of this number
abbrev pub bad_token_at : List ℕ → List ℕ → ℕ → Token
bad_token_at bytes text number = token_from bytes text number bad_token 0

-- The tokens from the character of this number on, where that piece stands there; others gives
-- those from a later character on. Where no token begins the list ends, with a bad token unless
-- this is the end of the bytes.
abbrev pub tokens_with : List ℕ → List ℕ → ℕ → Piece → (ℕ → List Token) → List Token
tokens_with bytes text number (gap_piece count) others = others (number + count)
tokens_with bytes text number (token_piece kind count) others =
    token_from bytes text number kind count ∷ others (number + count)
tokens_with bytes text number no_piece others =
    if place_of text number == length bytes then [] else bad_token_at bytes text number ∷ []

-- the tokens from the character of this number on, read in so many steps, one for each piece
unfoldable pub tokens_from : List ℕ → List ℕ → ℕ → ℕ → List Token
tokens_from bytes text zero number = []
tokens_from bytes text (suc steps) number =
    tokens_with bytes text number (piece_at (drop number text)) (tokens_from bytes text steps)

-- The tokens of the bytes. Each step but the last reads a character or more, so one more step than
-- there are characters is enough.
unfoldable pub tokens_of : List ℕ → List Token
tokens_of bytes = let text = characters bytes in tokens_from bytes text (suc (length text)) 0
