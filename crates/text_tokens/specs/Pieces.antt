-- Needn't be believed: the program's promise doesn't speak of it. The piece of the definition that
-- a piece of the text stands for, and what a text begins with.
use Rattle.model_text.specs.Tokens as model
use Rattle.model_text.specs.Tokens.{gap_piece, token_piece, no_piece, is_blank}
use Rattle.text_tokens.specs.declared.pieces.Piece.{Piece}
use Rattle.text_tokens.specs.declared.pieces.Piece.TheVariants.{Gap, Token, Nothing}
use Rattle.std.specs.Prelude.{ℕ, not, ◌&&◌, ◌==◌, codes, if◌then◌else◌}
use Rattle.std.specs.Char.{is_ascii_alphabetic, is_ascii_digit}
use Rattle.text_tokens.specs.declared.pieces.Start.{Start}
use Rattle.text_tokens.specs.declared.pieces.Start.TheVariants.{Blank, Opening, Closing, LoneSymbol, Symbol, Word, LogicName, Literal, Digit, Other}
use Rattle.text_tokens.specs.Symbols.{is_among}
use Rattle.text_tokens.specs.Tokens.{kind_of}

abbrev pub piece_of : Piece → model.Piece
piece_of (Gap n) = gap_piece n
piece_of (Token kind n) = token_piece (kind_of kind) n
piece_of Nothing = no_piece

-- what a text begins with, as far as its first character says
abbrev pub start_of : ℕ → Start
start_of c = if is_blank c then Blank
    else (if is_among (codes "([{") c then Opening
    else (if is_among (codes ")]}>") c then Closing
    else (if is_among (codes ",;=#%") c then LoneSymbol
    else (if is_ascii_alphabetic c && not (c == 111) then Word
    else (if c == 36 then LogicName else (if is_ascii_digit c then Digit
    else (if c == 34 then Literal
    else (if is_among (codes "<:.+-*@?") c then Symbol else Other))))))))
