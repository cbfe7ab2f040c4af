-- Needn't be believed: what stands at a place of ASCII bytes.
use Rattle.std.specs.Prelude.{◌≡◌, ℕ, ◌<◌, ◌≤◌, List, length, drop, Option, Some, None}
use Rattle.std.specs.Str.{IsAscii}
use Rattle.model_text.specs.Tokens as model
use Rattle.model_text.specs.Tokens.{line_of, piece_at, token_piece, no_piece}
use Rattle.text_tokens.specs.declared.tokens.TokenKind.{TokenKind}
use Rattle.text_tokens.specs.Tokens.{kind_of}

-- a token of the kind and the length, or none
abbrev pub standing : Option TokenKind → ℕ → model.Piece
standing None count = no_piece
standing (Some kind) count = token_piece (kind_of kind) count

-- it stands at the place, which is on the line
pub record IsSettled (bytes : List ℕ) (from count line : ℕ) (kind : Option TokenKind) : Type 0 where
  pub ascii : IsAscii bytes
  pub bounded : length bytes < 4294967295
  pub within : from ≤ length bytes
  pub line_is : line ≡ line_of bytes from
  pub stands : standing kind count ≡ piece_at (drop from bytes)
