-- Needn't be believed: the program's promise doesn't speak of it. Reading a list of lexemes to its
-- end.
use Rattle.std.specs.Prelude.{suc, List, [], ◌∷◌, length, Result, Ok, Err}
use Rattle.model_text.specs.Lexemes.{Lexeme}
use Rattle.token_readers.specs.Reading.{Stop, At, Read, ◌>>=◌}

-- what was read, where nothing is left
abbrev pub ended : {A : Type 0} → A → List Lexeme → Result A Stop
ended a [] = Ok a
ended a (t ∷ ts) = Err (At (suc (length ts)))

-- reads a list to its end
abbrev pub whole : {A : Type 0} → Read A → List Lexeme → Result A Stop
whole r ts = r ts >>= λ x. ended x.0 x.1
