-- Needn't be believed: the program's promise doesn't speak of it. What the grammar sees of the
-- tokens of a list.
use Rattle.std.specs.Prelude.{List, map}
use Rattle.model_text.specs.Lexemes.{Lexeme, lexeme_of}
use Rattle.text_tokens.specs.declared.tokens.Token.{Token}
use Rattle.text_tokens.specs.Tokens.{token_of}

-- of one token
abbrev pub seen : Token → Lexeme
seen token = lexeme_of (token_of token)

-- and of a list of them
abbrev pub listed : List Token → List Lexeme
listed = map seen
