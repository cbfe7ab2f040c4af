-- Needn't be believed: whether the second lexeme is the number 2.
use Rattle.std.specs.Prelude.{Bool, false, ◌==◌, List, ◌∷◌}
use Rattle.model_text.specs.Lexemes.{Lexeme, number_lexeme}

abbrev pub second_is_two : List Lexeme → Bool
second_is_two (first ∷ number_lexeme n ∷ rest) = n == 2
second_is_two lexemes = false
