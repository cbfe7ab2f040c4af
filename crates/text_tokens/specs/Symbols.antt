-- Needn't be believed: the program's promise doesn't speak of it. How a symbol begins and goes on.
use Rattle.std.specs.Prelude.{ℕ, Bool, false, List, [], ◌∷◌, nat_eq, codes}
use Rattle.std.specs.List.{list_any}

-- whether one of the marks stands at the front of the text
abbrev pub comes_next : List ℕ → List ℕ → Bool
comes_next marks [] = false
comes_next marks (next ∷ rest) = list_any (λ mark. nat_eq mark next) marks

-- whether the character is one of these
abbrev pub is_among : List ℕ → ℕ → Bool
is_among these c = list_any (λ one. nat_eq one c) these

-- whether it is a symbol, and begins no longer one
abbrev pub is_lone : ℕ → Bool
is_lone = is_among (codes "()[]{}>,;=#%")
