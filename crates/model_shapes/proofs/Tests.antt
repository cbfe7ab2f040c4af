-- What the tests of equality say, of sorts, texts, numbers and values: that the two are equal.
use Rattle.std.proofs.Common.{◌≡◌, ℕ, ℤ, int_le, refl, ap, Bool, true, false, ◌&&◌, bytes_eq, ◌==◌, rules}
use Rattle.std.proofs.lemmas.Int.{ints}
use Rattle.std.proofs.lemmas.Slice.Eq.{bytes_eq-Decides}
use mathlib.Core.HLevel.{Discrete}
use Rattle.model_shapes.specs.Sorts.{ValueSort, node_sort, list_sort, int_sort, str_sort, bool_sort, DataSort, tree, forest, grove, Sort, value, shape, context}
use Rattle.model_shapes.specs.Values.{Text, Value, null, nolist, node_number, list_number, int, str, boolean}
use Rattle.model_shapes.specs.Tests.{same_value_sort, same_data_sort, same_sort, int_eq, same_bool, same_value, value_eq}
use Rattle.model_shapes.specs.Trees.{trees_eq}
use Rattle.model_shapes.specs.Things.{Thing, Thing-discrete}
use Rattle.model_shapes.proofs.Truth.{false≢true, both_true}

-- the test of value sorts says that they are equal
pub same_value_sort-is : (a b : ValueSort) → same_value_sort a b ≡ true → a ≡ b
same_value_sort-is node_sort node_sort e = refl
same_value_sort-is list_sort list_sort e = refl
same_value_sort-is int_sort int_sort e = refl
same_value_sort-is str_sort str_sort e = refl
same_value_sort-is bool_sort bool_sort e = refl
same_value_sort-is a b e = false≢true e

-- and it says so of each and itself
pub same_value_sort-refl : (a : ValueSort) → same_value_sort a a ≡ true
same_value_sort-refl node_sort = refl
same_value_sort-refl list_sort = refl
same_value_sort-refl int_sort = refl
same_value_sort-refl str_sort = refl
same_value_sort-refl bool_sort = refl

-- the test of data sorts
pub same_data_sort-is : (a b : DataSort) → same_data_sort a b ≡ true → a ≡ b
same_data_sort-is tree tree e = refl
same_data_sort-is forest forest e = refl
same_data_sort-is grove grove e = refl
same_data_sort-is a b e = false≢true e

-- of each and itself
pub same_data_sort-refl : (a : DataSort) → same_data_sort a a ≡ true
same_data_sort-refl tree = refl
same_data_sort-refl forest = refl
same_data_sort-refl grove = refl

-- the test of sorts
pub same_sort-is : (a b : Sort) → same_sort a b ≡ true → a ≡ b
same_sort-is (value a) (value b) e = ap value (same_value_sort-is a b e)
same_sort-is (shape a) (shape b) e = ap shape (same_data_sort-is a b e)
same_sort-is (context h k) (context h' k') e =
    λ i. context
    (same_data_sort-is h h' (both_true (same_data_sort h h') (same_data_sort k k') e).0 i)
    (same_data_sort-is k k' (both_true (same_data_sort h h') (same_data_sort k k') e).1 i)
same_sort-is a b e = false≢true e

-- of each and itself
pub same_sort-refl : (a : Sort) → same_sort a a ≡ true
same_sort-refl (value a) = same_value_sort-refl a
same_sort-refl (shape a) = same_data_sort-refl a
same_sort-refl (context h k) = λ i. same_data_sort-refl h i && same_data_sort-refl k i

-- the test of texts
pub bytes-is : (x y : Text) → bytes_eq x y ≡ true → x ≡ y
bytes-is x y e = (bytes_eq-Decides x y).0 e

-- of each and itself
pub bytes-refl : (x : Text) → bytes_eq x x ≡ true
bytes-refl x = (bytes_eq-Decides x x).1 refl

-- the test of numbers
pub nat-is : (i j : ℕ) → (i == j) ≡ true → i ≡ j
nat-is i j e = search rules

-- of each and itself
pub nat-refl : (i : ℕ) → (i == i) ≡ true
nat-refl i = search rules

-- the test of integers
pub int-is : (a b : ℤ) → int_eq a b ≡ true → a ≡ b
int-is a b e = let h : (int_le a b ≡ true) × (int_le b a ≡ true) =
    both_true (int_le a b) (int_le b a) e in search (rules, ints)

-- of each and itself
pub int-refl : (a : ℤ) → int_eq a a ≡ true
int-refl a = search (rules, ints)

same_bool-is : (a b : Bool) → same_bool a b ≡ true → a ≡ b
same_bool-is true true e = refl
same_bool-is true false e = false≢true e
same_bool-is false true e = false≢true e
same_bool-is false false e = refl

same_bool-refl : (a : Bool) → same_bool a a ≡ true
same_bool-refl true = refl
same_bool-refl false = refl

-- the test of values says that they are equal
pub same_value-is : (v w : Value) → same_value v w ≡ true → v ≡ w
same_value-is null null e = refl
same_value-is nolist nolist e = refl
same_value-is (int a) (int b) e = ap int (int-is a b e)
same_value-is (str a) (str b) e = ap str (bytes-is a b e)
same_value-is (boolean a) (boolean b) e = ap boolean (same_bool-is a b e)
same_value-is (node_number a) (node_number b) e = ap node_number (nat-is a b e)
same_value-is (list_number a) (list_number b) e = ap list_number (nat-is a b e)
same_value-is v w e = false≢true e

-- and it says so of each value and itself
pub same_value-refl : (v : Value) → same_value v v ≡ true
same_value-refl null = refl
same_value-refl nolist = refl
same_value-refl (int a) = int-refl a
same_value-refl (str a) = bytes-refl a
same_value-refl (boolean a) = same_bool-refl a
same_value-refl (node_number a) = nat-refl a
same_value-refl (list_number a) = nat-refl a

-- things are equal or not
pub thing_eq : Discrete Thing
thing_eq = Thing-discrete value_eq trees_eq
