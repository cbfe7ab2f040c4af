-- Needn't be believed: the lines of a text.
use Rattle.std.specs.Prelude.{◌≡◌, ◌==◌, ◌⊎◌, ℕ, Bool, true, List, [], ◌∷◌, ◌++◌, length, take, drop}
use Rattle.std.specs.Str.{chars}
use Rattle.model_text.specs.Tokens.{newline}
use Rattle.text_tokens.specs.declared.positions.Position.{Position}
use Rattle.text_tokens.specs.Positions.{IsPosition}

-- the last of the characters, if there is one, is a newline
abbrev pub ends_line : List ℕ → Bool
ends_line [] = true
ends_line (c ∷ []) = c == newline
ends_line (c ∷ d ∷ rest) = ends_line (d ∷ rest)

-- so many bytes of the text are its first line: all, or a newline is the last of them
abbrev pub IsLineLength : List ℕ → ℕ → Type 0
IsLineLength text count = (count ≡ length text) ⊎ (ends_line (chars (take count text)) ≡ true)

-- the characters stand at the position of the text, and are the rest of its line
pub record IsLine (bytes text line : List ℕ) (from : Position) : Type 0 where
  pub is : IsPosition bytes text from
  pub rest : List ℕ
  pub split : drop from.number text ≡ line ++ rest
  pub whole : (rest ≡ []) ⊎ (ends_line line ≡ true)
