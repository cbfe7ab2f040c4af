-- What the tests of equality of terms and formulas say: that the two are equal.
use Rattle.std.proofs.Common.{Decides, ◌≡◌, refl, ap, subst, true, ◌&&◌}
use Rattle.model_shapes.specs.Tests.{same_data_sort, same_sort}
use Rattle.model_shapes.proofs.Truth.{false≢true, both_true}
use Rattle.model_shapes.proofs.Tests.{same_data_sort-is, same_data_sort-refl, same_sort-is, same_sort-refl, same_value-is, same_value-refl}
use Rattle.model_terms.specs.Variables.{Var}
use Rattle.model_terms.specs.VariableTests.{same_var, same_var-is, same_var-refl}
use Rattle.model_terms.specs.Terms.{Term, literal, variable, sum, difference, appended}
use Rattle.model_formulas.specs.Formulas.{Named, Formula, truth, falsity, conjunction, disjunction, implication, negation, existential, universal, equality, at_most, empty, bare_hole, node_formula, one_tree, one_root, concatenation, grove_sum, grove_sum_hole, application, hole_adjoint, context_adjoint, same_as, length_is, value_meets, Side, whole, hole_left, hole_right}
use Rattle.model_formulas.specs.Nameless.{nameless}
use Rattle.model_formulas.specs.SameFormulas.{same_side, same_term, same_formula}

-- equal sides
pub same_side-is : (a b : Side) → same_side a b ≡ true → a ≡ b
same_side-is whole whole e = refl
same_side-is hole_left hole_left e = refl
same_side-is hole_right hole_right e = refl
same_side-is a b e = false≢true e

same_side-refl : (a : Side) → same_side a a ≡ true
same_side-refl whole = refl
same_side-refl hole_left = refl
same_side-refl hole_right = refl

-- the test of terms says that they are equal
pub term-is : (a b : Term) → same_term a b ≡ true → a ≡ b
term-is (literal v) (literal w) e = ap literal (same_value-is v w e)
term-is (variable x) (variable y) e = ap variable (same_var-is x y e)
term-is (sum a b) (sum c d) e = let h : (same_term a c ≡ true) × (same_term b d ≡ true) =
    both_true (same_term a c) (same_term b d) e in λ j. sum (term-is a c h.0 j) (term-is b d h.1 j)
term-is (difference a b) (difference c d) e =
    let h : (same_term a c ≡ true) × (same_term b d ≡ true) =
    both_true (same_term a c) (same_term b d) e in
    λ j. difference (term-is a c h.0 j) (term-is b d h.1 j)
term-is (appended a b) (appended c d) e = let h : (same_term a c ≡ true) × (same_term b d ≡ true) =
    both_true (same_term a c) (same_term b d) e in
    λ j. appended (term-is a c h.0 j) (term-is b d h.1 j)
term-is a b e = false≢true e

term-refl : (a : Term) → same_term a a ≡ true
term-refl (literal v) = same_value-refl v
term-refl (variable x) = same_var-refl x
term-refl (sum a b) = λ j. term-refl a j && term-refl b j
term-refl (difference a b) = λ j. term-refl a j && term-refl b j
term-refl (appended a b) = λ j. term-refl a j && term-refl b j

module _ where
  -- the test of formulas says that they are equal
  pub same_formula-is : (p q : Formula) → same_formula p q ≡ true → p ≡ q
  same_formula-is truth truth e = refl
  same_formula-is falsity falsity e = refl
  same_formula-is (conjunction p q) (conjunction p' q') e = let h0 : (same_formula p p' ≡ true)
      × ((same_formula q q') ≡ true) = both_true (same_formula p p') (same_formula q q') e in
      λ j. conjunction (same_formula-is p p' h0.0 j) (same_formula-is q q' h0.1 j)
  same_formula-is (disjunction p q) (disjunction p' q') e = let h0 : (same_formula p p' ≡ true)
      × ((same_formula q q') ≡ true) = both_true (same_formula p p') (same_formula q q') e in
      λ j. disjunction (same_formula-is p p' h0.0 j) (same_formula-is q q' h0.1 j)
  same_formula-is (implication p q) (implication p' q') e = let h0 : (same_formula p p' ≡ true)
      × ((same_formula q q') ≡ true) = both_true (same_formula p p') (same_formula q q') e in
      λ j. implication (same_formula-is p p' h0.0 j) (same_formula-is q q' h0.1 j)
  same_formula-is (negation p) (negation p') e = λ j. negation (same_formula-is p p' e j)
  same_formula-is (existential s p) (existential s' p') e = let h0 : (same_sort s s' ≡ true)
      × ((same_formula p p') ≡ true) = both_true (same_sort s s') (same_formula p p') e in
      λ j. existential (same_sort-is s s' h0.0 j) (same_formula-is p p' h0.1 j)
  same_formula-is (universal s p) (universal s' p') e = let h0 : (same_sort s s' ≡ true)
      × ((same_formula p p') ≡ true) = both_true (same_sort s s') (same_formula p p') e in
      λ j. universal (same_sort-is s s' h0.0 j) (same_formula-is p p' h0.1 j)
  same_formula-is (equality a b) (equality a' b') e = let h0 : (same_term a a' ≡ true)
      × ((same_term b b') ≡ true) = both_true (same_term a a') (same_term b b') e in
      λ j. equality (term-is a a' h0.0 j) (term-is b b' h0.1 j)
  same_formula-is (at_most a b) (at_most a' b') e = let h0 : (same_term a a' ≡ true)
      × ((same_term b b') ≡ true) = both_true (same_term a a') (same_term b b') e in
      λ j. at_most (term-is a a' h0.0 j) (term-is b b' h0.1 j)
  same_formula-is (empty k) (empty k') e = λ j. empty (same_data_sort-is k k' e j)
  same_formula-is (bare_hole k) (bare_hole k') e = λ j. bare_hole (same_data_sort-is k k' e j)
  same_formula-is (node_formula n i p l) (node_formula n' i' p' l') e =
      let h0 : (same_term n n' ≡ true)
      × ((same_term i i' && (same_formula p p' && same_term l l')) ≡ true) =
      both_true (same_term n n') (same_term i i' && (same_formula p p' && same_term l l')) e in
      let h1 : (same_term i i' ≡ true) × ((same_formula p p' && same_term l l') ≡ true) =
      both_true (same_term i i') (same_formula p p' && same_term l l') h0.1 in
      let h2 : (same_formula p p' ≡ true) × ((same_term l l') ≡ true) =
      both_true (same_formula p p') (same_term l l') h1.1 in
      λ j. node_formula (term-is n n' h0.0 j) (term-is i i' h1.0 j) (same_formula-is p p' h2.0 j)
      (term-is l l' h2.1 j)
  same_formula-is (one_tree p) (one_tree p') e = λ j. one_tree (same_formula-is p p' e j)
  same_formula-is (one_root p) (one_root p') e = λ j. one_root (same_formula-is p p' e j)
  same_formula-is (concatenation d p q) (concatenation d' p' q') e =
      let h0 : (same_side d d' ≡ true) × ((same_formula p p' && same_formula q q') ≡ true) =
      both_true (same_side d d') (same_formula p p' && same_formula q q') e in
      let h1 : (same_formula p p' ≡ true) × ((same_formula q q') ≡ true) =
      both_true (same_formula p p') (same_formula q q') h0.1 in
      λ j. concatenation (same_side-is d d' h0.0 j) (same_formula-is p p' h1.0 j)
      (same_formula-is q q' h1.1 j)
  same_formula-is (grove_sum p q) (grove_sum p' q') e = let h0 : (same_formula p p' ≡ true)
      × ((same_formula q q') ≡ true) = both_true (same_formula p p') (same_formula q q') e in
      λ j. grove_sum (same_formula-is p p' h0.0 j) (same_formula-is q q' h0.1 j)
  same_formula-is (grove_sum_hole p q) (grove_sum_hole p' q') e =
      let h0 : (same_formula p p' ≡ true) × ((same_formula q q') ≡ true) =
      both_true (same_formula p p') (same_formula q q') e in
      λ j. grove_sum_hole (same_formula-is p p' h0.0 j) (same_formula-is q q' h0.1 j)
  same_formula-is (application h p q) (application h' p' q') e =
      let h0 : (same_data_sort h h' ≡ true) × ((same_formula p p' && same_formula q q') ≡ true) =
      both_true (same_data_sort h h') (same_formula p p' && same_formula q q') e in
      let h1 : (same_formula p p' ≡ true) × ((same_formula q q') ≡ true) =
      both_true (same_formula p p') (same_formula q q') h0.1 in
      λ j. application (same_data_sort-is h h' h0.0 j) (same_formula-is p p' h1.0 j)
      (same_formula-is q q' h1.1 j)
  same_formula-is (hole_adjoint p q) (hole_adjoint p' q') e = let h0 : (same_formula p p' ≡ true)
      × ((same_formula q q') ≡ true) = both_true (same_formula p p') (same_formula q q') e in
      λ j. hole_adjoint (same_formula-is p p' h0.0 j) (same_formula-is q q' h0.1 j)
  same_formula-is (context_adjoint k p q) (context_adjoint k' p' q') e =
      let h0 : (same_data_sort k k' ≡ true) × ((same_formula p p' && same_formula q q') ≡ true) =
      both_true (same_data_sort k k') (same_formula p p' && same_formula q q') e in
      let h1 : (same_formula p p' ≡ true) × ((same_formula q q') ≡ true) =
      both_true (same_formula p p') (same_formula q q') h0.1 in
      λ j. context_adjoint (same_data_sort-is k k' h0.0 j) (same_formula-is p p' h1.0 j)
      (same_formula-is q q' h1.1 j)
  same_formula-is (same_as a) (same_as a') e = λ j. same_as (term-is a a' e j)
  same_formula-is (length_is a) (length_is a') e = λ j. length_is (term-is a a' e j)
  same_formula-is (value_meets s a p) (value_meets s' a' p') e = let h0 : (same_sort s s' ≡ true)
      × ((same_term a a' && same_formula p p') ≡ true) =
      both_true (same_sort s s') (same_term a a' && same_formula p p') e in
      let h1 : (same_term a a' ≡ true) × ((same_formula p p') ≡ true) =
      both_true (same_term a a') (same_formula p p') h0.1 in
      λ j. value_meets (same_sort-is s s' h0.0 j) (term-is a a' h1.0 j)
      (same_formula-is p p' h1.1 j)
  same_formula-is p q e = false≢true e

module _ where
  -- and it says so of each formula and itself
  pub same_formula-refl : (p : Formula) → same_formula p p ≡ true
  same_formula-refl truth = refl
  same_formula-refl falsity = refl
  same_formula-refl (conjunction p q) = λ j. same_formula-refl p j && same_formula-refl q j
  same_formula-refl (disjunction p q) = λ j. same_formula-refl p j && same_formula-refl q j
  same_formula-refl (implication p q) = λ j. same_formula-refl p j && same_formula-refl q j
  same_formula-refl (negation p) = λ j. same_formula-refl p j
  same_formula-refl (existential s p) = λ j. same_sort-refl s j && same_formula-refl p j
  same_formula-refl (universal s p) = λ j. same_sort-refl s j && same_formula-refl p j
  same_formula-refl (equality a b) = λ j. term-refl a j && term-refl b j
  same_formula-refl (at_most a b) = λ j. term-refl a j && term-refl b j
  same_formula-refl (empty k) = λ j. same_data_sort-refl k j
  same_formula-refl (bare_hole k) = λ j. same_data_sort-refl k j
  same_formula-refl (node_formula n i p l) =
      λ j. term-refl n j && (term-refl i j && (same_formula-refl p j && term-refl l j))
  same_formula-refl (one_tree p) = λ j. same_formula-refl p j
  same_formula-refl (one_root p) = λ j. same_formula-refl p j
  same_formula-refl (concatenation d p q) =
      λ j. same_side-refl d j && (same_formula-refl p j && same_formula-refl q j)
  same_formula-refl (grove_sum p q) = λ j. same_formula-refl p j && same_formula-refl q j
  same_formula-refl (grove_sum_hole p q) = λ j. same_formula-refl p j && same_formula-refl q j
  same_formula-refl (application h p q) =
      λ j. same_data_sort-refl h j && (same_formula-refl p j && same_formula-refl q j)
  same_formula-refl (hole_adjoint p q) = λ j. same_formula-refl p j && same_formula-refl q j
  same_formula-refl (context_adjoint k p q) =
      λ j. same_data_sort-refl k j && (same_formula-refl p j && same_formula-refl q j)
  same_formula-refl (same_as a) = λ j. term-refl a j
  same_formula-refl (length_is a) = λ j. term-refl a j
  same_formula-refl (value_meets s a p) =
      λ j. same_sort-refl s j && (term-refl a j && same_formula-refl p j)

-- the test decides whether nameless formulas are equal
pub same_formula-both : (p q : Formula) → (same_formula p q ≡ true → p ≡ q)
    × (p ≡ q → same_formula p q ≡ true)
same_formula-both p q =
    (same_formula-is p q, (λ e. subst (λ z. same_formula p z ≡ true) e (same_formula-refl p)))

-- and so whether formulas with names are the same
pub same_formula-Decides : (p q : Named)
    → Decides (same_formula (nameless p) (nameless q)) (nameless p ≡ nameless q)
same_formula-Decides p q = same_formula-both (nameless p) (nameless q)

-- and that of variables
pub same_var-both : (x y : Var) → (same_var x y ≡ true → x ≡ y) × (x ≡ y → same_var x y ≡ true)
same_var-both x y = (same_var-is x y, (λ e. subst (λ z. same_var x z ≡ true) e (same_var-refl x)))
