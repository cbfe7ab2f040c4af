-- Needn't be believed: it divides the list of the free variables into steps. What a walk down a
-- formula has found so far, and what binders leave of it.
use Rattle.std.specs.Prelude.{◌≡◌, ℕ, Bool, false, cond, List, [], ◌∷◌, ◌++◌, None, bytes_eq}
use Rattle.std.specs.List.{list_any}
use Rattle.model_terms.specs.Variables.{Var, prog, logic, bound}
use Rattle.name_table.specs.Found.{found}
use Rattle.name_table.specs.declared.tables.NameTable.{NameTable}
use Rattle.formula_syntax.specs.FreeVariables.{is_among, without}

-- the list without what these binders bind
abbrev pub outside : List Var → List Var → List Var
outside [] ys = ys
outside (x ∷ xs) ys = outside xs (without x ys)

-- the variable put at the end, where it isn't there yet
abbrev pub with_one : List Var → Var → List Var
with_one found x = cond (is_among x found) found (found ++ x ∷ [])

-- each of the variables, in order
abbrev pub with_each : List Var → List Var → List Var
with_each found [] = found
with_each found (x ∷ xs) = with_each (with_one found x) xs

-- the name of a variable
abbrev pub var_text : Var → List ℕ
var_text (prog x s) = x
var_text (logic x s) = x
var_text (bound i s) = []

-- the name is that of one of the variables
abbrev pub is_name_of : List ℕ → List Var → Bool
is_name_of name xs = list_any (λ x. bytes_eq name (var_text x)) xs

-- the table has a place for each of their names
abbrev pub HasPlaces : NameTable ℕ → List Var → Type 0
HasPlaces places xs = (name : List ℕ) → found places name ≡ None → is_name_of name xs ≡ false
