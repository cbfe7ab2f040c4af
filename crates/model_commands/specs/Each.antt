-- That each of a list is as asked.
use Rattle.std.specs.Prelude.{List, [], ◌∷◌}

-- each of these
abbrev pub Each : {A : Type 0} → (A → Type 0) → List A → Type 0
Each Asked [] = Unit
Each Asked (x ∷ xs) = Asked x × Each Asked xs
