-- Needn't be believed: the program's promise doesn't speak of it. What the grammar sees of tokens
-- of the program, and of the tokens that are left to a reader.
use Rattle.std.specs.Prelude.{ℕ, Bool, List, cond, map, encode_utf8_all, false}
use Rattle.model_text.specs.Tokens.{unescaped}
use Rattle.model_text.specs.Lexemes as model
use Rattle.model_text.specs.Lexemes.{lexeme_at}
use Rattle.model_text.specs.Versions.{reserving}
use Rattle.text_tokens.specs.declared.fronts.Front.{Front}
use Rattle.text_tokens.specs.declared.fronts.Left.{Left}
use Rattle.text_tokens.specs.declared.fronts.Left.TheVariants.{Listed, Ascii}
use Rattle.text_tokens.specs.declared.lexemes.Lexeme.{Lexeme}
use Rattle.text_tokens.specs.declared.tokens.TokenKind.{TokenKind}
use Rattle.text_tokens.specs.declared.tokens.TokenKind.TheVariants.{Word, LogicName, Number, Literal, Symbol, Bad}
use Rattle.text_tokens.specs.Ascii.{left_at}
use Rattle.text_tokens.specs.Tokens.{kind_of}
pub use Rattle.text_tokens.specs.Listed.{seen, listed}

-- the text of a token that is handed to a reader: for a literal that is written what it stands for
abbrev pub meant : TokenKind → Bool → List ℕ → List ℕ
meant Word is_written text = text
meant LogicName is_written text = text
meant Number is_written text = text
meant Literal is_written text =
    cond is_written (encode_utf8_all (unescaped false text)) text
meant Symbol is_written text = text
meant Bad is_written text = text

-- what the grammar sees of it
abbrev pub lexeme_seen : Lexeme → model.Lexeme
lexeme_seen x = lexeme_at (kind_of x.kind) (meant x.kind x.is_written x.text.now) x.line

-- and of the tokens that are left
unfoldable pub lexemes_left : Left → List model.Lexeme
lexemes_left (Listed tokens) = listed tokens.now
lexemes_left (Ascii front) = left_at front

-- and of those that are left to a reader, in the version that it was told
unfoldable pub lexemes_in : Front → List model.Lexeme
lexemes_in front = cond front.reserves (map reserving (lexemes_left front.left))
    (lexemes_left front.left)
