-- Sums and products that stop at a greatest number.
use Rattle.std.proofs.Common.{◌≡◌, ℕ, zero, suc, ◌+◌, ◌-◌, ◌*◌, ◌^◌, ◌≤◌, ◌<◌, min, refl, ap, ◌∙◌, arith, lit≤}
use Rattle.std.proofs.Math.Nat.{le-mul_of_pos_right, mul_comm}
use native.Mathlib.Decide.{dec_lt}

low : (a m : ℕ) → a < m → min a m ≡ a
low a m h = omega (arith, h)

-- one of the two is past the greatest
past : (a b m : ℕ) → 1 ≤ m → m ≤ a → min (min a m * min b m) m ≡ min (a * b) m
past a zero m h k =
    let z : min 0 m ≡ 0 = omega arith in
    rw z (omega arith)
past a (suc b) m h k =
    let y : 0 < min (suc b) m = omega (arith, h) in
    let x : 0 < suc b = omega arith in
    omega (
      arith,
      k,
      le-mul_of_pos_right {m = min (suc b) m} (min a m) y,
      le-mul_of_pos_right {m = suc b} a x,
    )

product_stops : (a b m : ℕ) → 1 ≤ m → min (min a m * min b m) m ≡ min (a * b) m
product_stops a b m h = elim (dec_lt a m) [
  | yes x ↦ elim (dec_lt b m) [
    | yes y ↦ rw (low a m x, low b m y) refl
    | no y ↦
        ap (λ n. min n m) (mul_comm (min a m) (min b m)) ∙ past b a m h (omega (arith, y))
        ∙ ap (λ n. min n m) (mul_comm b a)
  ]
  | no x ↦ past a b m h (omega (arith, x))
]

-- at the greatest number of 64 bits
abbrev most : ℕ
most = 2 ^ 64 - 1

product_at_most : (a b : ℕ) → min (min a most * min b most) most ≡ min (a * b) most
product_at_most a b = product_stops a b most (lit≤ tt)

-- the weights of formulas, as they are summed up
pub one_more : (a : ℕ) → min (min a most + 1) most ≡ min (1 + a) most
one_more a = omega arith

pub two_more : (a b : ℕ) → min (min (min a most + min b most) most + 1) most
    ≡ min (1 + (a + b)) most
two_more a b = omega arith

pub times_one : (n a : ℕ) → min (min (n + 1) most * min (min a most + 1) most) most
    ≡ min ((n + 1) * (1 + a)) most
times_one n a = ap (λ z. min (min (n + 1) most * z) most) (one_more a)
    ∙ product_at_most (n + 1) (1 + a)

pub times_two : (n a b : ℕ)
    → min (min (n + 1) most * min (min (min a most + min b most) most + 1) most) most
    ≡ min ((n + 1) * (1 + (a + b))) most
times_two n a b = ap (λ z. min (min (n + 1) most * z) most) (two_more a b)
    ∙ product_at_most (n + 1) (1 + (a + b))

pub ruleset weight_rules = (one_more, two_more, times_one, times_two)
