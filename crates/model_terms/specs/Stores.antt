-- Program variables, stores, and the values of terms in a store, after PODS 2008.
-- Integers have no bounds here, and a variable that was never set has its sort's default.
use Rattle.std.specs.Prelude.{◌++◌, [], ℤ, pos, ◌+ℤ◌, ◌-ℤ◌, Bool, false, cond}
use Rattle.model_shapes.specs.Sorts.{ValueSort, node_sort, list_sort, int_sort, str_sort, bool_sort}
use Rattle.model_shapes.specs.Values.{Name, Text, Value, null, nolist, int, str, boolean, FitsValue}
use Rattle.model_terms.specs.VariableTests.{same_var}
use Rattle.model_terms.specs.Variables.{Var, prog}
use Rattle.model_terms.specs.Terms.{Term, literal, variable, sum, difference, appended}

-- a program variable: its name and its sort
pub data ProgVar : Type 0 where
  named : Name → ValueSort → ProgVar

-- as a variable of formulas
abbrev pub as_var : ProgVar → Var
as_var (named x s) = prog x s

-- its sort
abbrev pub sort_of : ProgVar → ValueSort
sort_of (named x s) = s

-- the test of equality
abbrev pub same_name : ProgVar → ProgVar → Bool
same_name x y = same_var (as_var x) (as_var y)

-- the value of a variable that was never set
abbrev pub default : ValueSort → Value
default node_sort = null
default list_sort = nolist
default int_sort = int (pos 0)
default str_sort = str []
default bool_sort = boolean false

-- a finite map, which keeps its variables in the order in which they were first set
pub data Store : Type 0 where
  unset : Store
  holding : ProgVar → Value → Store → Store

-- the value of a variable in a store, which is its sort's default where it isn't there
abbrev pub value_in : Store → ProgVar → Value
value_in unset x = default (sort_of x)
value_in (holding y v store) x = cond (same_name x y) v (value_in store x)

-- the store with a value for the variable
abbrev pub set : ProgVar → Value → Store → Store
set x v unset = holding x v unset
set x v (holding y w store) =
    cond (same_name x y) (holding y v store) (holding y w (set x v store))

-- the store as a function of name and sort
abbrev pub lookup : Store → Name → ValueSort → Value
lookup store name s = value_in store (named name s)

-- each variable has a value of its sort
pub record ProperStore (store : Store) : Type 0 where
  pub fits : (x : ProgVar) → FitsValue (sort_of x) (value_in store x)

-- the integer or the text that a value is, and 0 or the empty text where it is none
abbrev pub int_in : Value → ℤ
int_in (int z) = z
int_in v = pos 0

-- the text that a value is, and the empty text where it is none
abbrev pub text_in : Value → Text
text_in (str s) = s
text_in v = []

-- the value of a term of a command, which has no logic variable
abbrev pub value_of : Store → Term → Value
value_of store (literal v) = v
value_of store (variable (prog x s)) = lookup store x s
value_of store (variable x) = null
value_of store (sum a b) = int (int_in (value_of store a) +ℤ int_in (value_of store b))
value_of store (difference a b) = int (int_in (value_of store a) -ℤ int_in (value_of store b))
value_of store (appended a b) = str (text_in (value_of store a) ++ text_in (value_of store b))
