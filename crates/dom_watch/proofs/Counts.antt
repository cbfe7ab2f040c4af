-- A list whose numbers all stand in a grove is no longer than the grove has nodes.
use Rattle.std.proofs.Common.{◌≡◌, ℕ, ◌≤◌, List, [], ◌∷◌, ◌++◌, length, refl, arith, length-append}
use Rattle.model_shapes.specs.Trees.{Trees, none, node, hole}
use Rattle.model_groves.specs.Sizes.{size}
use Rattle.model_heap.specs.Lists.{count}
use Rattle.model_heap.specs.Entries.{uses}
use Rattle.model_heap.proofs.Moves.{one_here}
use Rattle.model_heap.proofs.Neighbours.{split, count-append}

-- no number stands more often in the first list than in the second
fewer : (xs ys : List ℕ) → ((n : ℕ) → count n xs ≤ count n ys) → length xs ≤ length ys
fewer [] ys h = omega arith
fewer (x ∷ xs) ys h =
    let there : 1 ≤ count x ys = omega (arith, h x, one_here x x refl) in
    let s = split x ys there in
    let less : length xs ≤ length (s.front ++ s.back) = fewer xs (s.front ++ s.back) (λ n.
    let a : count n ys ≡ count n (s.front ++ x ∷ s.back) = cc in
    omega (
      arith,
      h n,
      a,
      count-append n s.front (x ∷ s.back),
      count-append n s.front s.back,
    )) in
    let b : length ys ≡ length (s.front ++ x ∷ s.back) = cc in
    omega (arith, less, b, length-append s.front (x ∷ s.back), length-append s.front s.back)

-- the numbers of all nodes
abbrev all_numbers : Trees → List ℕ
all_numbers none = []
all_numbers (node s i k l rest) = i ∷ (all_numbers k ++ all_numbers rest)
all_numbers (hole rest) = all_numbers rest

all_used : (n : ℕ) (g : Trees) → count n (all_numbers g) ≡ uses n g
all_used n none = refl
all_used n (node s i k l rest) =
    omega (arith, count-append n (all_numbers k) (all_numbers rest), all_used n k, all_used n rest)
all_used n (hole rest) = all_used n rest

all_sized : (g : Trees) → length (all_numbers g) ≡ size g
all_sized none = refl
all_sized (node s i k l rest) =
    omega (arith, length-append (all_numbers k) (all_numbers rest), all_sized k, all_sized rest)
all_sized (hole rest) = all_sized rest

pub no_more : (xs : List ℕ) (g : Trees) → ((n : ℕ) → count n xs ≤ uses n g) → length xs ≤ size g
no_more xs g h =
    omega (arith, all_sized g, fewer xs (all_numbers g) (λ n. omega (arith, h n, all_used n g)))
