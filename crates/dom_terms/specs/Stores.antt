-- Needn't be believed: the program's promise doesn't speak of it. The stores of the definitions
-- that the program's stores stand for: finite maps from program variables to values, as in PODS
-- 2008.
use Rattle.std.specs.Prelude.{List, [], ◌∷◌, Option, Some, None, Bool, cond}
use Rattle.model_shapes.specs.Values as values
use Rattle.model_terms.specs.Stores as model
use Rattle.dom_terms.specs.declared.store.Cell.{Cell}
use Rattle.dom_terms.specs.Terms.{prog_var_of}
use Rattle.dom_terms.specs.Values.{value_seen}

-- what a cell holds: the variable with its value
abbrev pub cell_seen : Cell → model.ProgVar × values.Value
cell_seen cell = (prog_var_of cell.variable, value_seen cell.value)

-- the store that holds what the cells hold
abbrev pub store_of : List Cell → model.Store
store_of [] = model.unset
store_of (cell ∷ cells) =
    model.holding (prog_var_of cell.variable) (value_seen cell.value) (store_of cells)

-- the test whether a cell is the variable's
abbrev pub has_variable : model.ProgVar → Cell → Bool
has_variable variable cell = model.same_name variable (prog_var_of cell.variable)

-- the value that a variable was set to, where it was
abbrev pub found_in : model.Store → model.ProgVar → Option values.Value
found_in model.unset variable = None
found_in (model.holding other value store) variable =
    cond (model.same_name variable other) (Some value) (found_in store variable)
