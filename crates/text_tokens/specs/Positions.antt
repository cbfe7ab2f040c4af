-- Needn't be believed: positions in a text.
use Rattle.std.specs.Prelude.{◌≡◌, ℕ, ◌≤◌, List, length}
use Rattle.model_text.specs.Tokens.{place_of, line_of}
use Rattle.text_tokens.specs.declared.positions.Position.{Position}

-- the position is before a character of the text, or at its end, in the bytes
pub record IsPosition (bytes text : List ℕ) (position : Position) : Type 0 where
  pub within : position.number ≤ length text
  pub place_is : position.place ≡ place_of text position.number
  pub line_is : position.line ≡ line_of bytes position.place

-- its line is that of its place, before which no more characters than bytes stand
pub record IsPlace (bytes : List ℕ) (position : Position) : Type 0 where
  pub counted : position.number ≤ position.place
  pub line_is : position.line ≡ line_of bytes position.place
