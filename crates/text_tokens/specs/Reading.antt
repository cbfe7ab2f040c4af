-- Needn't be believed: what reading a part of a line does.
use Rattle.std.specs.Prelude.{◌≡◌, ℕ, suc, ◌+◌, ◌-◌, ◌≤◌, List, ◌++◌, length, take, drop, encode_utf8_all}
use Rattle.std.specs.Str.{IsUtf8, chars}
use Rattle.std.specs.Str.Lossy.{utf8_valid_len}
use Rattle.model_text.specs.Tokens as model
use Rattle.model_text.specs.Tokens.{characters, token_text, tokens_from, tokens_of}
use Rattle.text_tokens.specs.declared.positions.Position.{Position}
use Rattle.text_tokens.specs.Lines.{IsLine}
use Rattle.text_tokens.specs.Positions.{IsPlace, IsPosition}

-- the token of the kind that has these characters, from a position to another
abbrev pub token_between : model.TokenKind → List ℕ → Position → Position → model.Token
token_between kind own from to = record {
  kind = kind;
  text = token_text kind own;
  start = from.place;
  finish = to.place;
  line = from.line;
}

-- the tokens of the text from the character of this number on
abbrev pub tokens_left : List ℕ → List ℕ → ℕ → List model.Token
tokens_left bytes text number = tokens_from bytes text (suc (length text - number)) number

-- with the tokens before, the list ends in the line, whatever the text is
abbrev pub EndsIn : List ℕ → List ℕ → List model.Token → Position → List model.Token → Type 0
EndsIn bytes line before from after = (text : List ℕ) → IsLine bytes text line from
    → before ++ tokens_left bytes text from.number ≡ after

-- with the tokens before, it goes on from a position after so many characters of the line
pub record GoesOn (bytes line : List ℕ) (before : List model.Token) (from : Position)
    (after : List model.Token) (count : ℕ) (to : Position) : Type 0 where
  pub is : IsPlace bytes to
  pub within : count ≤ length line
  pub number : to.number ≡ from.number + count
  pub place : to.place ≡ from.place + length (encode_utf8_all (take count line))
  pub same : (text : List ℕ) → IsLine bytes text line from
      → before ++ tokens_left bytes text from.number ≡ after ++ tokens_left bytes text to.number

-- the characters of the line before those left are read
pub record IsReadTo (bytes line : List ℕ) (before : List model.Token) (from : Position)
    (after : List model.Token) (left : List ℕ) (to : Position) : Type 0 where
  pub read : GoesOn bytes line before from after (length line - length left) to
  pub rest : left ≡ drop (length line - length left) line

-- the lines before those left are read, of the longest prefix of the bytes that is UTF-8
pub record AreRead (bytes : List ℕ) (before after : List model.Token) (left : List ℕ)
    (to : Position) : Type 0 where
  pub is : IsPosition bytes (characters bytes) to
  pub rest : drop to.number (characters bytes) ≡ chars left
  pub utf8 : IsUtf8 left
  pub place : to.place + length left ≡ utf8_valid_len bytes
  pub same : before ++ tokens_of bytes
      ≡ after ++ tokens_left bytes (characters bytes) to.number
