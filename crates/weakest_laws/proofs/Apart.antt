-- Names that differ.
use Rattle.std.proofs.Common.{◌≡◌, List, [], ◌∷◌}
use Rattle.model_shapes.specs.Values.{Name}

-- the name is none of these
abbrev pub IsNew : Name → List Name → Type 0
IsNew name [] = Unit
IsNew name (other ∷ others) = (name ≡ other → ⊥) × IsNew name others

-- no two of these are equal
abbrev pub Differ : List Name → Type 0
Differ [] = Unit
Differ (name ∷ names) = IsNew name names × Differ names
