-- Needn't be believed: the promises speak of the lists of declarations themselves. Tables of names:
-- what a name is declared as first, and whether one is declared twice.
use Rattle.std.specs.Prelude.{◌≡◌, ℕ, Bool, not, List, Option, bytes_eq}
use Rattle.std.specs.Option.{option_map}
use Rattle.model_commands.specs.SortTests.{distinct_by}
use Rattle.name_table.specs.Found as names
pub use Rattle.name_table.specs.Found.{first_of}
use Rattle.dom_syntax.specs.declared.tables.Table.{Table}

-- a name with what it is declared as
abbrev pub Declaration : Type 0 → Type 0
Declaration W = List ℕ × W

-- the declarations have one name
abbrev pub share : {W : Type 0} → Declaration W → Declaration W → Bool
share d e = bytes_eq d.0 e.0

-- what the table has for the name
abbrev pub found : {V : Type 0} → Table V → List ℕ → Option V
found table name = names.found table.first name

-- the table is that of the declarations
pub record Declares {V W : Type 0} (seen : V → W) (table : Table V) (ds : List (Declaration W))
    : Type 0 where
  pub first : (name : List ℕ) → option_map seen (found table name) ≡ first_of ds name
  pub repeats : table.repeats ≡ not (distinct_by share ds)
