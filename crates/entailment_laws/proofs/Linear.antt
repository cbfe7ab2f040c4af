-- The row linear.
use Rattle.std.proofs.Common.{◌≡◌, refl, sym, ap, ◌∙◌, subst, arith, ℤ, pos, ◌+ℤ◌, ◌-ℤ◌, ◌*ℤ◌, ◌≤ℤ◌, ◌<ℤ◌, int_le, int_lt, true, ◌&&◌, IsTrue, rules}
use Rattle.std.proofs.Math.IntN.{zero-*ℤ, *ℤ-zero}
use Rattle.std.proofs.lemmas.Int.{ints}
use Rattle.model_shapes.proofs.Tests.{int-is}
use Rattle.model_shapes.proofs.Truth.{both_true}
use Rattle.model_shapes.specs.Sorts.{Sort, value, int_sort}
use Rattle.model_shapes.specs.Values.{null, nolist, node_number, list_number, int, str, boolean}
use Rattle.model_shapes.specs.Trees.{Trees}
use Rattle.model_shapes.specs.Things.{Thing, val, trees, Fits}
use Rattle.model_terms.specs.Terms.{Term, difference}
use Rattle.model_formulas.specs.Formulas.{falsity, equality, at_most}
use Rattle.model_shapes.specs.Tests.{int_eq}
use Rattle.model_formulas.specs.Satisfaction.{Environment, Entails, Meets, number_of, meaning_of}
use Rattle.rule_table.specs.Linear.{Weighed, order, equation, both_of, comparisons, sum_of, minus, multiple, rest, constant, in_range, are_fair, equations_alone, is_constant, at_least_zero, below_zero, is_zero}
use Rattle.entailment_laws.proofs.Ints.{mul-not_negative}
use Rattle.entailment_laws.proofs.Forms.{value_of, value-append, value-multiple, value-minus, constant-means}
use Rattle.entailment_laws.proofs.Quantified.{Stands}

le_is : (a b : ℤ) → int_le a b ≡ true → a ≤ℤ b
le_is a b e = search (rules, ints)

lt_is : (a b : ℤ) → int_lt a b ≡ true → a <ℤ b
lt_is a b e = search (rules, ints)

le_true : (n m : ℤ) → n ≤ℤ m → IsTrue (int_le n m)
le_true n m h = search (rules, ints)

-- an integer is what its number says
int_is : (x : Thing) → Fits (value int_sort) x → x ≡ val (int (number_of x))
int_is (val (int z)) f = refl
int_is (val null) f = absurd f
int_is (val nolist) f = absurd f
int_is (val (node_number n)) f = absurd f
int_is (val (list_number n)) f = absurd f
int_is (val (str z)) f = absurd f
int_is (val (boolean b)) f = absurd f
int_is (trees r) f = absurd f

module _ (e : Environment) where
  nothing_more : (v : ℤ) → v ≡ pos 0 → pos 0 ≤ℤ v
  nothing_more v h = omega (arith, ints)

  both_not : (x y : ℤ) → pos 0 ≤ℤ x → pos 0 ≤ℤ y → pos 0 ≤ℤ (x +ℤ y)
  both_not x y h i = omega (arith, ints)

  both_zero : (x y : ℤ) → x ≡ pos 0 → y ≡ pos 0 → x +ℤ y ≡ pos 0
  both_zero x y h i = omega (arith, ints)

  apart : (x y : ℤ) → IsTrue (int_le x y) → pos 0 ≤ℤ (y -ℤ x)
  apart x y h = omega (arith, ints)

  no_difference : (x y : ℤ) → x ≡ y → y -ℤ x ≡ pos 0
  no_difference x y h = omega (arith, ints)

  -- an equation adds nothing
  equation-sum : (a : ℤ) (l r : Term) → meaning_of e l ≡ meaning_of e r
      → value_of e (sum_of (equation a l r)) ≡ pos 0
  equation-sum a l r m =
      value-multiple e a (difference r l)
      ∙ ap (λ z. a *ℤ z)
      (no_difference (number_of (meaning_of e l)) (number_of (meaning_of e r)) (ap number_of m))
      ∙ *ℤ-zero a

  -- the sum is not negative
  sum-not_negative : (w : Weighed) (s : Sort) (t : Trees) → are_fair w ≡ true
      → Meets (comparisons w) e s t → pos 0 ≤ℤ value_of e (sum_of w)
  sum-not_negative (order a l r) s t f m =
      subst (λ z. pos 0 ≤ℤ z) (sym (value-multiple e a (difference r l)))
      (mul-not_negative a (number_of (meaning_of e r) -ℤ number_of (meaning_of e l))
      (le_is (pos 0) a (both_true (in_range a) (int_le (pos 0) a) f).1)
      (apart (number_of (meaning_of e l)) (number_of (meaning_of e r)) m))
  sum-not_negative (equation a l r) s t f m =
      nothing_more (value_of e (sum_of (equation a l r))) (equation-sum a l r m)
  sum-not_negative (both_of v w) s t f m =
      let g : (are_fair v ≡ true) × (are_fair w ≡ true) = both_true (are_fair v) (are_fair w) f in
      subst (λ z. pos 0 ≤ℤ z) (sym (value-append e (sum_of v) (sum_of w)))
      (both_not (value_of e (sum_of v)) (value_of e (sum_of w))
      (sum-not_negative v s t g.0 m.0) (sum-not_negative w s t g.1 m.1))

  -- and it is 0 where orders don't count
  sum-zero : (w : Weighed) (s : Sort) (t : Trees) → equations_alone w ≡ true
      → Meets (comparisons w) e s t → value_of e (sum_of w) ≡ pos 0
  sum-zero (order a l r) s t f m =
      value-multiple e a (difference r l)
      ∙ ap (λ z. z *ℤ (number_of (meaning_of e r) -ℤ number_of (meaning_of e l)))
      (int-is a (pos 0) f)
      ∙ zero-*ℤ (number_of (meaning_of e r) -ℤ number_of (meaning_of e l))
  sum-zero (equation a l r) s t f m = equation-sum a l r m
  sum-zero (both_of v w) s t f m =
      let g : (equations_alone v ≡ true) × (equations_alone w ≡ true) =
      both_true (equations_alone v) (equations_alone w) f in
      value-append e (sum_of v) (sum_of w)
      ∙ both_zero (value_of e (sum_of v)) (value_of e (sum_of w))
      (sum-zero v s t g.0 m.0) (sum-zero w s t g.1 m.1)

  -- F - E - s comes to what it says
  rest-value : (a b : Term) (w : Weighed) → value_of e (rest a b (sum_of w))
      ≡ number_of (meaning_of e b) -ℤ number_of (meaning_of e a) -ℤ value_of e (sum_of w)
  rest-value a b w =
      value-append e (multiple (pos 1) (difference b a)) (minus (sum_of w))
      ∙ (λ i. (value-multiple e (pos 1) (difference b a)
      ∙ once (number_of (meaning_of e b) -ℤ number_of (meaning_of e a))) i
      +ℤ value-minus e (sum_of w) i)
    where
      once : (x : ℤ) → pos 1 *ℤ x ≡ x
      once x = omega (arith, ints)

module _ (w : Weighed) (s : Sort) (fair : are_fair w ≡ true) where
  pub linear_order : (a b : Term) → at_least_zero (rest a b (sum_of w)) ≡ true
      → Entails (comparisons w) (at_most a b) s
  linear_order a b h e pr t shaped m =
      let g : (is_constant (rest a b (sum_of w)) ≡ true)
      × (int_le (pos 0) (constant (rest a b (sum_of w))) ≡ true) =
      both_true (is_constant (rest a b (sum_of w)))
      (int_le (pos 0) (constant (rest a b (sum_of w)))) h in
      last (number_of (meaning_of e a)) (number_of (meaning_of e b)) (value_of e (sum_of w))
      (constant (rest a b (sum_of w)))
      (sym (rest-value e a b w) ∙ constant-means e (rest a b (sum_of w)) g.0)
      (le_is (pos 0) (constant (rest a b (sum_of w))) g.1) (sum-not_negative e w s t fair m)
    where
      last : (x y v c : ℤ) → y -ℤ x -ℤ v ≡ c → pos 0 ≤ℤ c → pos 0 ≤ℤ v → IsTrue (int_le x y)
      last x y v c h i j = le_true x y (omega (arith, ints))

  pub linear_false : below_zero (sum_of w) ≡ true → Entails (comparisons w) falsity s
  linear_false h e pr t shaped m =
      let g : (is_constant (sum_of w) ≡ true) × (int_lt (constant (sum_of w)) (pos 0) ≡ true) =
      both_true (is_constant (sum_of w)) (int_lt (constant (sum_of w)) (pos 0)) h in
      last (value_of e (sum_of w)) (constant (sum_of w)) (constant-means e (sum_of w) g.0)
      (lt_is (constant (sum_of w)) (pos 0) g.1) (sum-not_negative e w s t fair m)
    where
      last : (v c : ℤ) → v ≡ c → c <ℤ pos 0 → pos 0 ≤ℤ v → ⊥
      last v c h i j = omega (arith, ints)

  pub linear_equation : (a b : Term) → Stands a (value int_sort) → Stands b (value int_sort)
      → (is_zero (rest a b (sum_of w)) && equations_alone w) ≡ true
      → Entails (comparisons w) (equality a b) s
  linear_equation a b sa sb h e pr t shaped m =
      let f : (is_zero (rest a b (sum_of w)) ≡ true) × (equations_alone w ≡ true) =
      both_true (is_zero (rest a b (sum_of w))) (equations_alone w) h in
      let g : (is_constant (rest a b (sum_of w)) ≡ true)
      × (int_eq (constant (rest a b (sum_of w))) (pos 0) ≡ true) =
      both_true (is_constant (rest a b (sum_of w)))
      (int_eq (constant (rest a b (sum_of w))) (pos 0)) f.0 in
      int_is (meaning_of e a) (sa e pr)
      ∙ ap (λ z. val (int z))
      (last (number_of (meaning_of e a)) (number_of (meaning_of e b)) (value_of e (sum_of w))
      (sym (rest-value e a b w) ∙ constant-means e (rest a b (sum_of w)) g.0
      ∙ int-is (constant (rest a b (sum_of w))) (pos 0) g.1)
      (sum-zero e w s t f.1 m))
      ∙ sym (int_is (meaning_of e b) (sb e pr))
    where
      last : (x y v : ℤ) → y -ℤ x -ℤ v ≡ pos 0 → v ≡ pos 0 → x ≡ y
      last x y v h i = omega (arith, ints)
