-- Variables of programs, of the logic, and bound ones: names as in PODS 2008, here with sorts.
-- A variable is its name and its sort, so one name at two sorts is two variables.
use Rattle.std.specs.Prelude.{ℕ}
use Rattle.model_shapes.specs.Sorts.{Sort, value, ValueSort}
use Rattle.model_shapes.specs.Values.{Name}

-- A program variable, a logic variable, or a bound one with the number of binders between it and
-- its binder.
pub data Var : Type 0 where
  prog : Name → ValueSort → Var
  logic : Name → Sort → Var
  bound : ℕ → Sort → Var

-- the sort of a variable
abbrev pub var_sort : Var → Sort
var_sort (prog name s) = value s
var_sort (logic name s) = s
var_sort (bound i s) = s
