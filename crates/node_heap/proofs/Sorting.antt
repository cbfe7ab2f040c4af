-- An index that is sorted says the same as before.
use Rattle.std.proofs.Common.{◌≡◌, ◌≢◌, ℕ, suc, ◌+◌, ◌≤◌, cond, eqb, List, [], ◌∷◌, Option, Some, None, refl, sym, ap, ◌∙◌, inl, inr, arith}
use Rattle.std.specs.List.{sum_by}
use Rattle.std.specs.List.Sorted.{IsPermutation, IsNonDecreasingBy}
use Rattle.std.proofs.lemmas.Bool.{cases_eq}
use Rattle.std.proofs.lemmas.List.Sums.{sum_by-cons}
use Rattle.std.proofs.lemmas.List.Sorted.{sum_by-IsPermutation, length_permutation}
use Rattle.model_heap.specs.Lists.{count}
use Rattle.model_heap.proofs.Moves.{test_yes, test_no, one_here}
use Rattle.node_heap.specs.declared.index.Pair.{Pair}
use Rattle.node_heap.specs.Indexes.{lookup, numbers, Rising}
use Rattle.node_heap.specs.Drafts.{IsOnce, IsSorted}

abbrev pub number_of : Pair → ℕ
number_of pair = pair.number

abbrev stands : ℕ → Pair → ℕ
stands n pair = cond (eqb n pair.number) 1 0

abbrev key_of : ℕ → Pair → ℕ
key_of n pair = cond (eqb n pair.number) (1 + pair.key) 0

count-summed : (n : ℕ) (qs : List Pair) → count n (numbers qs) ≡ sum_by (stands n) qs
count-summed n [] = refl
count-summed n (q ∷ qs) = omega (arith, count-summed n qs, sum_by-cons (stands n) q qs)

-- a key, or nothing, as a number
abbrev coded : Option ℕ → ℕ
coded None = 0
coded (Some k) = 1 + k

none-summed : (n : ℕ) (qs : List Pair) → count n (numbers qs) ≡ 0 → sum_by (key_of n) qs ≡ 0
none-summed n [] h = refl
none-summed n (q ∷ qs) h =
    let d : n ≢ q.number = λ e. absurd (omega (arith, h, one_here n q.number e)) in
    let z : key_of n q ≡ 0 = rw (test_no n q.number d) refl in
    omega (arith, z, sum_by-cons (key_of n) q qs, none-summed n qs (omega (arith, h)))

lookup-summed : (n : ℕ) (qs : List Pair) → count n (numbers qs) ≤ 1
    → coded (lookup n qs) ≡ sum_by (key_of n) qs
lookup-summed n [] u = refl
lookup-summed n (q ∷ qs) u =
    elim (cases_eq n q.number) [
      | inl e ↦
          let z : count n (numbers qs) ≡ 0 = omega (arith, u, one_here n q.number e) in
          let k : key_of n q ≡ 1 + q.key = rw (test_yes n q.number e) refl in
          let at : lookup n (q ∷ qs) ≡ Some q.key = rw (test_yes n q.number e) refl in
          let total : sum_by (key_of n) (q ∷ qs) ≡ 1 + q.key =
          omega (arith, k, sum_by-cons (key_of n) q qs, none-summed n qs z) in
          ap coded at ∙ sym total
      | inr d ↦
          let k : key_of n q ≡ 0 = rw (test_no n q.number d) refl in
          let at : lookup n (q ∷ qs) ≡ lookup n qs = rw (test_no n q.number d) refl in
          let total : sum_by (key_of n) (q ∷ qs) ≡ sum_by (key_of n) qs =
          omega (arith, k, sum_by-cons (key_of n) q qs) in
          ap coded at ∙ lookup-summed n qs (omega (arith, u)) ∙ sym total
    ]

decoded : (a b : Option ℕ) → coded a ≡ coded b → a ≡ b
decoded None None e = refl
decoded None (Some y) e = absurd (omega (arith, e))
decoded (Some x) None e = absurd (omega (arith, e))
decoded (Some x) (Some y) e = ap Some (omega (arith, e))

strictly : (qs : List Pair) → IsOnce qs → IsNonDecreasingBy number_of qs → Rising qs
strictly [] u h = tt
strictly (q ∷ []) u h = tt
strictly (q ∷ p ∷ qs) u h =
    let le : q.number ≤ p.number = h 0 1 q (omega arith) (omega arith) in
    let d : q.number ≢ p.number =
    λ e. absurd (omega (
      arith,
      u q.number,
      one_here q.number q.number refl,
      one_here q.number p.number e,
    )) in (
      omega (arith, le, d),
      strictly (p ∷ qs) (λ n. omega (arith, u n))
          (λ i j d v w. h (suc i) (suc j) d (omega arith) (omega arith)),
    )

pub is_sorted : (old new : List Pair) → IsOnce old → IsPermutation old new
    → IsNonDecreasingBy number_of new → IsSorted old new
is_sorted old new u p h =
    let counts : (n : ℕ) → count n (numbers new) ≡ count n (numbers old) =
    λ n. count-summed n new ∙ sum_by-IsPermutation (stands n) old new p ∙ sym (count-summed n old)
    in
    let once : IsOnce new = λ n. omega (arith, counts n, u n) in
    record {
      rising = strictly new once h;
      same = λ n. decoded (lookup n new) (lookup n old) (lookup-summed n new (once n)
          ∙ sum_by-IsPermutation (key_of n) old new p ∙ sym (lookup-summed n old (u n)));
      len = length_permutation old new p;
    }
