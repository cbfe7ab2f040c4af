-- Tests of equality, of sorts, texts and values.
use Rattle.std.specs.Prelude.{◌==◌, ℤ, int_le, Bool, true, false, ◌&&◌, bytes_eq}
use Rattle.std.proofs.Math.Decide.{ℕ_discrete}
use Rattle.std.proofs.Math.IntN.{ℤ_discrete}
use Rattle.std.proofs.Math.Bool.{Bool-discrete}
use mathlib.Core.HLevel.{Discrete}
use mathlib.Core.List.{List-discrete}
use Rattle.model_shapes.specs.Sorts.{ValueSort, node_sort, list_sort, int_sort, str_sort, bool_sort, ValueSort-discrete, DataSort, tree, forest, grove, DataSort-discrete, Sort, value, shape, context, Sort-discrete}
use Rattle.model_shapes.specs.Values.{Text, Value, null, nolist, node_number, list_number, int, str, boolean, Value-discrete}

-- sorts are equal or not
pub sort_eq : Discrete Sort
sort_eq = Sort-discrete ValueSort-discrete DataSort-discrete

-- texts are equal or not
pub text_eq : Discrete Text
text_eq = List-discrete ℕ_discrete

-- values are equal or not
pub value_eq : Discrete Value
value_eq = Value-discrete ℕ_discrete ℤ_discrete text_eq Bool-discrete

-- tests that compute: of value sorts
abbrev pub same_value_sort : ValueSort → ValueSort → Bool
same_value_sort node_sort node_sort = true
same_value_sort list_sort list_sort = true
same_value_sort int_sort int_sort = true
same_value_sort str_sort str_sort = true
same_value_sort bool_sort bool_sort = true
same_value_sort a b = false

-- of data sorts
abbrev pub same_data_sort : DataSort → DataSort → Bool
same_data_sort tree tree = true
same_data_sort forest forest = true
same_data_sort grove grove = true
same_data_sort a b = false

-- of sorts
abbrev pub same_sort : Sort → Sort → Bool
same_sort (value a) (value b) = same_value_sort a b
same_sort (shape a) (shape b) = same_data_sort a b
same_sort (context h k) (context i l) = same_data_sort h i && same_data_sort k l
same_sort a b = false

-- of integers
abbrev pub int_eq : ℤ → ℤ → Bool
int_eq a b = int_le a b && int_le b a

-- of truth values
abbrev pub same_bool : Bool → Bool → Bool
same_bool true b = b
same_bool false true = false
same_bool false false = true

-- of values
abbrev pub same_value : Value → Value → Bool
same_value null null = true
same_value nolist nolist = true
same_value (int a) (int b) = int_eq a b
same_value (str a) (str b) = bytes_eq a b
same_value (boolean a) (boolean b) = same_bool a b
same_value (node_number a) (node_number b) = a == b
same_value (list_number a) (list_number b) = a == b
same_value a b = false
