-- Needn't be believed: the program's promise doesn't speak of it. What the grammar sees of the
-- tokens of a source.
use Rattle.std.specs.Prelude.{List}
use Rattle.model_text.specs.Lexemes.{Lexeme}
use Rattle.text_tokens.specs.declared.sources.Source.{Source}
use Rattle.text_tokens.specs.declared.sources.Source.TheVariants.{Ascii, Listed}
use Rattle.text_tokens.specs.Ascii.{left_at}
use Rattle.text_tokens.specs.Listed.{listed}

abbrev pub lexemes_from : Source → List Lexeme
lexemes_from (Ascii front) = left_at front
lexemes_from (Listed tokens) = listed tokens
