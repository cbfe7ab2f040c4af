-- The numbers of the nodes of a grove, breadth first.
use Rattle.std.proofs.Common.{◌≡◌, ◌∙◌, ℕ, ◌+◌, ◌≤◌, ◌<◌, List, [], ◌∷◌, ◌++◌, Some, None, length, take, drop, get_or, refl, sym, ap, inl, inr, arith}
use Rattle.std.proofs.lemmas.Bool.{cases_eq}
use Rattle.std.proofs.lemmas.List.{take_more, take-append-le, take-append-drop}
use Rattle.model_shapes.specs.Trees.{Trees}
use Rattle.model_groves.specs.Sizes.{size}
use Rattle.model_heap.specs.Lists.{count}
use Rattle.model_heap.specs.Entries.{rows_of, roots, uses, kids_of, parent_of}
use Rattle.model_heap.proofs.Moves.{one_here}
use Rattle.model_heap.proofs.Neighbours.{count-append}
use Rattle.model_heap.proofs.Kinship.{Kin-rows_of, roots_use, kids_use, root_parent}
use Rattle.dom_watch.proofs.Counts.{no_more}

-- numbers of nodes that stand once, and the parent of each, where it has one, is among the first
pub record Visited (g : Trees) (numbers : List ℕ) (place : ℕ) : Type 0 where
  pub once : (n : ℕ) → count n numbers ≤ 1
  pub known : (n : ℕ) → 1 ≤ count n numbers → 1 ≤ uses n g
  pub below : (n p : ℕ) → 1 ≤ count n numbers → parent_of (rows_of g n) ≡ Some p
      → 1 ≤ count p (take place numbers)

pub visited_fit : (g : Trees) (numbers : List ℕ) (place : ℕ) → Visited g numbers place
    → length numbers ≤ size g
visited_fit g numbers place v = no_more numbers g (λ n. at n)
  where
    at : (n : ℕ) → count n numbers ≤ uses n g
    at n = elim (cases_eq (count n numbers) 0) [
      | inl z ↦ omega (arith, z)
      | inr z ↦ omega (arith, v.once n, v.known n (omega (arith, z)))
    ]

module _ (g : Trees) (once : (n : ℕ) → uses n g ≤ 1) where
  -- the roots are visited first
  pub roots_visited : Visited g (roots g) 0
  roots_visited = record {
    once = λ n. omega (arith, once n, roots_use n g);
    known = λ n h. omega (arith, h, roots_use n g);
    below = λ n p h e. absurd (let a = root_parent None g n (once n) h in cc);
  }

  -- and then the children of each
  module _ (numbers : List ℕ) (place m : ℕ) (v : Visited g numbers place)
      (low : place < length numbers) (is : get_or numbers place 0 ≡ m)
    where
      kids : List ℕ
      kids = kids_of (rows_of g m)

      more : take (place + 1) (numbers ++ kids_of (rows_of g m)) ≡ take place numbers ++ m ∷ []
      more =
          take-append-le (place + 1) numbers (kids_of (rows_of g m)) (omega arith)
          ∙ take_more numbers place 0 low
          ∙ ap (λ z. take place numbers ++ z ∷ []) is

      counted : (n : ℕ) → count n (take (place + 1) (numbers ++ kids_of (rows_of g m)))
          ≡ count n (take place numbers) + count n (m ∷ [])
      counted n = ap (count n) more ∙ count-append n (take place numbers) (m ∷ [])

      -- the one at the place isn't among those before it
      early : (n : ℕ) → count n (take place numbers) + count n (m ∷ []) ≤ 1
      early n =
          let a = take-append-drop (place + 1) numbers in
          let b = ap (count n) a in
          let c = count-append n (take (place + 1) numbers) (drop (place + 1) numbers) in
          let d = ap (count n) (take_more numbers place 0 low
          ∙ ap (λ z. take place numbers ++ z ∷ []) is) in
          omega (arith, v.once n, b, c, d, count-append n (take place numbers) (m ∷ []))

      up : (n : ℕ) → 1 ≤ count n (kids_of (rows_of g m)) → parent_of (rows_of g n) ≡ Some m
      up n h = (Kin-rows_of g once).up m n h

      fresh : (n : ℕ) → 1 ≤ count n (kids_of (rows_of g m)) → count n numbers ≡ 0
      fresh n h = elim (cases_eq (count n numbers) 0) [
        | inl z ↦ z
        | inr z ↦ absurd (omega (
          arith,
          v.below n m (omega (arith, z)) (up n h),
          early m,
          one_here m m refl,
        ))
      ]

      pub kids_visited : Visited g (numbers ++ kids_of (rows_of g m)) (place + 1)
      kids_visited = record {
        once = λ n. elim (cases_eq (count n (kids_of (rows_of g m))) 0) [
          | inl z ↦ omega (arith, z, v.once n, count-append n numbers (kids_of (rows_of g m)))
          | inr z ↦ omega (
            arith,
            fresh n (omega (arith, z)),
            (Kin-rows_of g once).once m n,
            count-append n numbers (kids_of (rows_of g m)),
          )
        ];
        known = λ n h. elim (cases_eq (count n (kids_of (rows_of g m))) 0) [
          | inl z ↦ v.known n (omega (arith, h, z, count-append n numbers (kids_of (rows_of g m))))
          | inr z ↦ omega (arith, z, kids_use None g m n)
        ];
        below = λ n p h e. elim (cases_eq (count n (kids_of (rows_of g m))) 0) [
          | inl z ↦ omega (
            arith,
            counted p,
            v.below n p (omega (arith, h, z, count-append n numbers (kids_of (rows_of g m)))) e,
          )
          | inr z ↦
              let w = up n (omega (arith, z)) in
              let same : p ≡ m = let y : Some p ≡ Some m = sym e ∙ w in cc in
              omega (arith, counted p, one_here p m same)
        ];
      }
