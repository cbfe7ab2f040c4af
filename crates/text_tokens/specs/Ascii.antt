-- Needn't be believed: the tokens of ASCII bytes that are left to a reader.
use Rattle.std.specs.Prelude.{◌≡◌, ℕ, ◌+◌, ◌<◌, ◌≤◌, List, length, drop, map, slice_index}
use Rattle.std.specs.Prelude.{Option, Some, None, Result, Ok, Err}
use Rattle.dom_terms.specs.declared.limits.LimitKind.{LimitKind}
use Rattle.dom_terms.specs.Limits.{limit_kind_of}
use Rattle.model_text.specs.Lexemes.{Lexeme, lexeme_at, lexeme_of}
use Rattle.model_text.specs.Nesting.{lexeme_limit, open_behind, token_limit}
use Rattle.model_text.specs.Tokens.{token_text, token_piece, piece_at}
use Rattle.text_tokens.specs.declared.ascii.AsciiFront.{AsciiFront}
use Rattle.text_tokens.specs.declared.tokens.TokenKind.{TokenKind}
use Rattle.text_tokens.specs.Reading.{tokens_left}
use Rattle.text_tokens.specs.Tokens.{kind_of}
use Rattle.text_tokens.specs.Within.{behind_first, within_limits}
pub use Rattle.text_tokens.specs.Standing.{IsSettled}

-- what the grammar sees of the tokens from a byte on
abbrev pub left_behind : List ℕ → ℕ → List Lexeme
left_behind bytes from = map lexeme_of (tokens_left bytes bytes from)

-- and of those that are left, up to the first that passes a limit
abbrev pub left_at : AsciiFront → List Lexeme
left_at front = behind_first front.most front.open (left_behind front.bytes.now front.from)

-- and where the first is still to be asked for its limits
abbrev pub left_unasked : AsciiFront → List Lexeme
left_unasked front =
    within_limits front.most front.open (left_behind front.bytes.now front.from)

-- a space stands at the place
abbrev pub SpaceStands : List ℕ → ℕ → Type 0
SpaceStands bytes place = (place < length bytes) × (slice_index bytes place ≡ 32)

-- what the grammar sees of a token of the kind with these characters, on the line
abbrev pub own_lexeme : TokenKind → List ℕ → ℕ → Lexeme
own_lexeme kind own line = lexeme_at (kind_of kind) (token_text (kind_of kind) own) line

-- a token passes no limit, and leaves so many brackets open
pub record Stays (most before behind : ℕ) (lexeme : Lexeme) : Type 0 where
  pub behind_is : behind ≡ open_behind before lexeme
  pub no_limit : lexeme_limit most before lexeme ≡ None

-- a token stands at the place, passes no limit, and leaves so many brackets open
pub record Passes (most before : ℕ) (bytes : List ℕ) (place : ℕ) (kind : TokenKind)
    (count behind : ℕ) : Type 0 where
  pub stands : token_piece (kind_of kind) count ≡ piece_at (drop place bytes)
  pub few : behind ≤ most
  pub same : within_limits most before (left_behind bytes place)
      ≡ behind_first most behind (left_behind bytes place)

-- the first so many bytes from the place on pass no limit, and leave so many brackets open
pub record Leads (most before : ℕ) (bytes : List ℕ) (place count behind : ℕ) : Type 0 where
  pub some : 0 < count
  pub within : place + count ≤ length bytes
  pub few : behind ≤ most
  pub same : token_limit most before (left_behind bytes place)
      ≡ token_limit most behind (left_behind bytes (place + count))

-- that is found at the place: none where no token begins, and the limit where one passes it
abbrev pub IsStep : ℕ → ℕ → List ℕ → ℕ → Result (Option (ℕ × ℕ)) LimitKind → Type 0
IsStep most before bytes place (Ok (Some step)) = Leads most before bytes place step.0 step.1
IsStep most before bytes place (Ok None) = token_limit most before (left_behind bytes place) ≡ None
IsStep most before bytes place (Err limit) =
    token_limit most before (left_behind bytes place) ≡ Some (limit_kind_of limit)
