-- Needn't be believed: the promises that use tables of names speak of the declarations themselves.
-- What a table of names has for a name.
use Rattle.std.specs.Prelude.{ℕ, cond, List, [], ◌∷◌, Option, Some, None, bytes_eq}
use Rattle.std.specs.Map.{lookup}
use Rattle.indexmap.specs.IndexMap.{get_by}
use Rattle.name_table.specs.declared.tables.NameTable.{NameTable}

-- what the name is declared as first
abbrev pub first_of : {V : Type 0} → List (List ℕ × V) → List ℕ → Option V
first_of [] name = None
first_of (d ∷ ds) name = cond (bytes_eq name d.0) (Some d.1) (first_of ds name)

-- the first of two values, where there is one
abbrev pub or_other : {V : Type 0} → Option V → Option V → Option V
or_other (Some v) other = Some v
or_other None other = other

-- what the table has for the name: what stands in the row, or else among the others
unfoldable pub found : {V : Type 0} → NameTable V → List ℕ → Option V
found table name =
    or_other (lookup (λ k. bytes_eq name k.now) table.few.items)
    (get_by (λ k. bytes_eq name k.now) table.others)
