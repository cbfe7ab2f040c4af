-- Searching an index.
use Rattle.std.proofs.Common.{◌≡◌, ◌≢◌, ℕ, zero, suc, ◌+◌, ◌<◌, ◌≤◌, List, [], ◌∷◌, Some, None, refl, sym, ap, inl, inr, arith, subst, length, get_or}
use Rattle.std.proofs.lemmas.Bool.{cases_eq}
use native.Mathlib.Decide.{dec_lt}
use Rattle.model_heap.proofs.Moves.{test_yes, test_no}
use Rattle.node_heap.specs.declared.index.Pair.{Pair}
use Rattle.node_heap.specs.Indexes.{lookup, Rising}
use Rattle.node_heap.proofs.Whole.{rising_rest}

rising_above : (q : Pair) (qs : List Pair) (k : ℕ) (d : Pair) → Rising (q ∷ qs) → k < length qs
    → q.number < (get_or qs k d).number
rising_above q [] k d r h = absurd (omega (arith, h))
rising_above q (p ∷ qs) zero d r h = r.0
rising_above q (p ∷ qs) (suc k) d r h = omega
    (arith, r.0, rising_above p qs k d r.1 (omega (arith, h)))

pub rising_at : (xs : List Pair) (j k : ℕ) (d : Pair) → Rising xs → j < k → k < length xs
    → (get_or xs j d).number < (get_or xs k d).number
rising_at [] j k d r h w = absurd (omega (arith, w))
rising_at (q ∷ qs) zero zero d r h w = absurd (omega (arith, h))
rising_at (q ∷ qs) zero (suc k) d r h w = rising_above q qs k d r (omega (arith, w))
rising_at (q ∷ qs) (suc j) zero d r h w = absurd (omega (arith, h))
rising_at (q ∷ qs) (suc j) (suc k) d r h w = rising_at qs j k d (rising_rest q qs r)
    (omega (arith, h)) (omega (arith, w))

pub lookup_at : (xs : List Pair) (k : ℕ) (d : Pair) → Rising xs → k < length xs
    → lookup (get_or xs k d).number xs ≡ Some (get_or xs k d).key
lookup_at [] k d r w = absurd (omega (arith, w))
lookup_at (q ∷ qs) zero d r w = rw (test_yes q.number q.number refl) refl
lookup_at (q ∷ qs) (suc k) d r w =
    let up = rising_above q qs k d r (omega (arith, w)) in
    rw (test_no (get_or qs k d).number q.number (λ e. absurd (omega (arith, up, e))))
    (lookup_at qs k d (rising_rest q qs r) (omega (arith, w)))

pub lookup_nowhere : (xs : List Pair) (n : ℕ) →
    ((k : ℕ) (d : Pair) → k < length xs → (get_or xs k d).number ≢ n) → lookup n xs ≡ None
lookup_nowhere [] n h = refl
lookup_nowhere (q ∷ qs) n h = rw (test_no n q.number (λ e. h 0 q (omega arith) (sym e)))
    (lookup_nowhere qs n (λ k d w. h (suc k) d (omega (arith, w))))

pub at_any : (xs : List Pair) (k : ℕ) (d e : Pair) → k < length xs → get_or xs k d ≡ get_or xs k e
at_any [] k d e h = absurd (omega (arith, h))
at_any (q ∷ qs) zero d e h = refl
at_any (q ∷ qs) (suc k) d e h = at_any qs k d e (omega (arith, h))

pub below_middle : (xs : List Pair) (n m : ℕ) (e : Pair) → Rising xs → m < length xs
    → (get_or xs m e).number < n → (k : ℕ) (d : Pair) → k < m + 1 → (get_or xs k d).number < n
below_middle xs n m e r w h k d b =
    let same : (get_or xs m d).number ≡ (get_or xs m e).number =
    ap (λ (q : Pair). q.number) (at_any xs m d e w) in
    elim (cases_eq k m) [
      | inl f ↦ subst (λ k. (get_or xs k d).number < n) (sym f) (omega (arith, same, h))
      | inr f ↦ omega (arith, rising_at xs k m d r (omega (arith, b, f)) w, same, h)
    ]

pub above_middle : (xs : List Pair) (n m : ℕ) (e : Pair) → Rising xs → m < length xs
    → n < (get_or xs m e).number → (k : ℕ) (d : Pair) → m ≤ k → k < length xs
    → n < (get_or xs k d).number
above_middle xs n m e r w h k d b v =
    let same : (get_or xs m d).number ≡ (get_or xs m e).number =
    ap (λ (q : Pair). q.number) (at_any xs m d e w) in
    elim (cases_eq k m) [
      | inl f ↦ subst (λ k. n < (get_or xs k d).number) (sym f) (omega (arith, same, h))
      | inr f ↦ omega (arith, rising_at xs m k d r (omega (arith, b, f)) v, same, h)
    ]

pub lookup_between : (xs : List Pair) (n low high : ℕ) → high ≤ low
    → ((k : ℕ) (d : Pair) → k < low → (get_or xs k d).number < n)
    → ((k : ℕ) (d : Pair) → high ≤ k → k < length xs → n < (get_or xs k d).number) → lookup n xs
    ≡ None
lookup_between xs n low high h below above = lookup_nowhere xs n (λ k d w e. other k d w e)
  where
    other : (k : ℕ) (d : Pair) → k < length xs → (get_or xs k d).number ≡ n → ⊥
    other k d w e = elim (dec_lt k low) [
      | yes l ↦ absurd (omega (arith, e, below k d l))
      | no l ↦ absurd (omega (arith, e, above k d (omega (arith, l, h)) w))
    ]
