-- Needn't be believed: the forms of patterns in groups, each of which a walk takes in a function of
-- its own; and how many forms a pattern is made of.
use Rattle.std.specs.Prelude.{ℕ, ◌+◌, Bool, true, false}
use Rattle.row_patterns.specs.declared.patterns.Pattern as pa

-- without parts
abbrev pub is_flat : pa.Pattern → Bool
is_flat pa.True = true
is_flat pa.False = true
is_flat (pa.Eq a b) = true
is_flat (pa.Le a b) = true
is_flat pa.EmptyForest = true
is_flat pa.EmptyGrove = true
is_flat (pa.Hole h) = true
is_flat pa.Var = true
is_flat (pa.Len a) = true
is_flat p = false

-- connectives, quantifiers and `is`
abbrev pub is_logical : pa.Pattern → Bool
is_logical (pa.And' p x q y) = true
is_logical (pa.Or' p x q y) = true
is_logical (pa.Imp' p x q y) = true
is_logical (pa.Not' p x) = true
is_logical (pa.Exists' p x) = true
is_logical (pa.Forall' p x) = true
is_logical (pa.Is' p x) = true
is_logical p = false

-- of shapes and contexts, with parts
abbrev pub is_shaped : pa.Pattern → Bool
is_shaped (pa.Node' a b p x c) = true
is_shaped (pa.One' p x) = true
is_shaped (pa.Root' p x) = true
is_shaped (pa.Join' s p x q y) = true
is_shaped (pa.Plus' p x q y) = true
is_shaped (pa.PlusHole' p x q y) = true
is_shaped (pa.App' h p x q y) = true
is_shaped (pa.HoleAdj' p x q y) = true
is_shaped (pa.CtxAdj' k p x q y) = true
is_shaped p = false

-- how many forms the pattern is made of
abbrev pub forms_of : pa.Pattern → ℕ
forms_of (pa.And' p x q y) = forms_of x + forms_of y + 1
forms_of (pa.Or' p x q y) = forms_of x + forms_of y + 1
forms_of (pa.Imp' p x q y) = forms_of x + forms_of y + 1
forms_of (pa.Not' p x) = forms_of x + 1
forms_of (pa.Exists' p x) = forms_of x + 1
forms_of (pa.Forall' p x) = forms_of x + 1
forms_of (pa.Node' a b p x c) = forms_of x + 1
forms_of (pa.One' p x) = forms_of x + 1
forms_of (pa.Root' p x) = forms_of x + 1
forms_of (pa.Join' s p x q y) = forms_of x + forms_of y + 1
forms_of (pa.Plus' p x q y) = forms_of x + forms_of y + 1
forms_of (pa.PlusHole' p x q y) = forms_of x + forms_of y + 1
forms_of (pa.App' h p x q y) = forms_of x + forms_of y + 1
forms_of (pa.HoleAdj' p x q y) = forms_of x + forms_of y + 1
forms_of (pa.CtxAdj' k p x q y) = forms_of x + forms_of y + 1
forms_of (pa.Is' p x) = forms_of x + 1
forms_of p = 1
