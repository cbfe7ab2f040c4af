-- The values of terms and variables.
-- Node numbers and list numbers are the identifiers of PODS 2008; integers have no bounds here.
use Rattle.std.specs.Prelude.{ℕ, ◌<◌, ℤ, Bool, List}
use Rattle.model_shapes.specs.Sorts.{ValueSort, node_sort, list_sort, int_sort, str_sort, bool_sort}

-- a text: any list of numbers; those of the program are the ones that are UTF-8 among them
abbrev pub Text : Type 0
Text = List ℕ

-- the name of a node, a variable or a procedure
abbrev pub Name : Type 0
Name = Text

-- a value
pub data Value : Type 0 where
  null nolist : Value
  node_number list_number : ℕ → Value
  int : ℤ → Value
  str : Text → Value
  boolean : Bool → Value
  deriving Discrete as Value-discrete

-- the sort of a value
abbrev pub value_sort : Value → ValueSort
value_sort null = node_sort
value_sort (node_number n) = node_sort
value_sort nolist = list_sort
value_sort (list_number n) = list_sort
value_sort (int z) = int_sort
value_sort (str s) = str_sort
value_sort (boolean b) = bool_sort

-- the value is of the sort, and the number of a node or a list is positive
abbrev pub FitsValue : ValueSort → Value → Type 0
FitsValue node_sort null = Unit
FitsValue node_sort (node_number n) = 0 < n
FitsValue list_sort nolist = Unit
FitsValue list_sort (list_number n) = 0 < n
FitsValue int_sort (int z) = Unit
FitsValue str_sort (str s) = Unit
FitsValue bool_sort (boolean b) = Unit
FitsValue s x = ⊥
