-- Variables are equal or not, by a test that computes, and that says that the two are equal.
use Rattle.std.specs.Prelude.{◌≡◌, true, false, Bool, ◌&&◌, bytes_eq, ◌==◌}
use Rattle.std.proofs.Common.{refl, subst}
use Rattle.model_shapes.specs.Tests.{same_sort, same_value_sort}
use Rattle.model_shapes.proofs.Truth.{false≢true, both_true}
use Rattle.model_shapes.proofs.Tests.{same_value_sort-is, same_value_sort-refl, same_sort-is, same_sort-refl, bytes-is, bytes-refl, nat-is, nat-refl}
use Rattle.model_terms.specs.Variables.{Var, prog, logic, bound}

-- whether two variables are equal
abbrev pub same_var : Var → Var → Bool
same_var (prog x s) (prog y u) = bytes_eq x y && same_value_sort s u
same_var (logic x s) (logic y u) = bytes_eq x y && same_sort s u
same_var (bound i s) (bound j u) = (i == j) && same_sort s u
same_var x y = false

-- the test of variables
pub same_var-is : (x y : Var) → same_var x y ≡ true → x ≡ y
same_var-is (prog x s) (prog y u) e =
    let h : (bytes_eq x y ≡ true) × (same_value_sort s u ≡ true) =
    both_true (bytes_eq x y) (same_value_sort s u) e in
    λ i. prog (bytes-is x y h.0 i) (same_value_sort-is s u h.1 i)
same_var-is (logic x s) (logic y u) e = let h : (bytes_eq x y ≡ true) × (same_sort s u ≡ true) =
    both_true (bytes_eq x y) (same_sort s u) e in
    λ i. logic (bytes-is x y h.0 i) (same_sort-is s u h.1 i)
same_var-is (bound k s) (bound j u) e = let h : ((k == j) ≡ true) × (same_sort s u ≡ true) =
    both_true (k == j) (same_sort s u) e in
    λ i. bound (nat-is k j h.0 i) (same_sort-is s u h.1 i)
same_var-is x y e = false≢true e

-- of each and itself
pub same_var-refl : (x : Var) → same_var x x ≡ true
same_var-refl (prog x s) = λ i. bytes-refl x i && same_value_sort-refl s i
same_var-refl (logic x s) = λ i. bytes-refl x i && same_sort-refl s i
same_var-refl (bound k s) = λ i. nat-refl k i && same_sort-refl s i

-- variables that fail the test are different
pub same_var-not : (x y : Var) → same_var x y ≡ false → x ≡ y → ⊥
same_var-not x y h e = let z : same_var x y ≡ true =
    subst (λ u. same_var x u ≡ true) e (same_var-refl x) in (cc)

-- a decision from a test that is right; it computes wherever the test does
abbrev pub decided_by : {A : Type 0} (b : Bool) → (b ≡ true → A) → (b ≡ false → A → ⊥) → Dec A
decided_by true f g = yes (f refl)
decided_by false f g = no (g refl)

-- variables and terms are equal or not
abbrev pub var_eq : (x y : Var) → Dec (x ≡ y)
var_eq x y = decided_by (same_var x y) (same_var-is x y) (same_var-not x y)
