-- Needn't be believed: it divides a test of repeats into steps. Whether no variable of a list is
-- among those before it.
use Rattle.std.specs.Prelude.{List, [], ◌∷◌, ◌++◌, Bool, true, not, ◌&&◌}
use Rattle.model_terms.specs.Stores.{ProgVar}
use Rattle.model_commands.specs.SortTests.{is_among}

-- none of the second list is among the first, nor among those before it
abbrev pub fresh : List ProgVar → List ProgVar → Bool
fresh seen [] = true
fresh seen (x ∷ xs) = not (is_among seen x) && fresh (seen ++ x ∷ []) xs
