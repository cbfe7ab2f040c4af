-- Needn't be believed: the promises speak of the lists of declarations themselves. Tables of names:
-- the sort with which a name is declared first.
use Rattle.std.specs.Prelude.{◌≡◌, ℕ, List, Option}
use Rattle.dom_terms.specs.declared.sorts.Sort.{Sort}
use Rattle.dom_terms.specs.declared.sorts.ValueSort.{ValueSort}
use Rattle.dom_terms.specs.declared.terms.LogicVar.{LogicVar}
use Rattle.dom_terms.specs.declared.terms.ProgVar.{ProgVar}
use Rattle.name_table.specs.Found as table
use Rattle.name_table.specs.Found.{first_of}
use Rattle.declared_sorts.specs.declared.names.Names.{Names}

-- a name and its sort
abbrev pub of_variable : ProgVar → List ℕ × ValueSort
of_variable x = (x.name, x.sort)

abbrev pub of_logic : LogicVar → List ℕ × Sort
of_logic x = (x.name, x.sort)

-- what the table has for the name
abbrev pub found : {S : Type 0} → Names S → List ℕ → Option S
found names name = table.found names.first name

-- the table is that of the declarations
abbrev pub Tells : {S : Type 0} → Names S → List (List ℕ × S) → Type 0
Tells names ds = (name : List ℕ) → found names name ≡ first_of ds name
