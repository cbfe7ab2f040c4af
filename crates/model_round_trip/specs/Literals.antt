-- Needn't be believed: the program's promise doesn't speak of it. The texts that stand in what is
-- written.
use Rattle.std.specs.Prelude.{List}
use Rattle.std.specs.Str.{IsUtf8}
use Rattle.model_text.specs.Lexemes.{Lexeme, literal_lexeme}
use Rattle.model_grammar.specs.Writable.{Each}

-- a literal stands for a text that is UTF-8; the other lexemes have none
abbrev pub LiteralIsUtf8 : Lexeme → Type 0
LiteralIsUtf8 (literal_lexeme text) = IsUtf8 text
LiteralIsUtf8 lexeme = Unit

-- so does each literal of the lexemes
abbrev pub LiteralsAreUtf8 : List Lexeme → Type 0
LiteralsAreUtf8 lexemes = Each LiteralIsUtf8 lexemes
