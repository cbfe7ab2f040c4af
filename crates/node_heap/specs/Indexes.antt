-- Needn't be believed: the invariant of heaps speaks of it, and the contracts of public calls
-- don't.
-- Indexes: lists of numbers with the keys of their records.
use Rattle.std.specs.Prelude.{ℕ, ◌<◌, ◌==◌, cond, List, [], ◌∷◌, Option, Some, None, unwrap_or}
use Rattle.node_heap.specs.declared.index.Pair.{Pair}

-- the key beside a number
abbrev pub lookup : ℕ → List Pair → Option ℕ
lookup n [] = None
lookup n (pair ∷ rest) = cond (n == pair.number) (Some pair.key) (lookup n rest)

-- the same, or 0 where there is none
abbrev pub key_in : List Pair → ℕ → ℕ
key_in index n = unwrap_or (lookup n index) 0

-- the numbers
abbrev pub numbers : List Pair → List ℕ
numbers [] = []
numbers (pair ∷ rest) = pair.number ∷ numbers rest

-- each number is above those before it
abbrev pub Rising : List Pair → Type 0
Rising [] = Unit {0}
Rising (pair ∷ []) = Unit {0}
Rising (pair ∷ next ∷ rest) = (pair.number < next.number) × Rising (next ∷ rest)

-- the last number, or 0
abbrev pub greatest_of : List Pair → ℕ
greatest_of [] = 0
greatest_of (pair ∷ []) = pair.number
greatest_of (pair ∷ next ∷ rest) = greatest_of (next ∷ rest)
