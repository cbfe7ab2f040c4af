-- The next pick of a grove is free.
use Rattle.std.proofs.Common.{◌≡◌, ℕ, suc, ◌<◌, ◌+◌, true, not, ◌&&◌, refl, arith}
use Rattle.std.proofs.Math.Decide.{ℕ_discrete}
use Rattle.model_shapes.specs.Trees.{Trees, none, node, hole, node_uses, list_uses, one_if}
use Rattle.model_groves.specs.Groves.{positive}
use Rattle.model_groves.specs.Sizes.{greatest_node, greatest_list}
use Rattle.model_groves.specs.Picks.{is_free, next_pick}

-- a number above the greatest isn't counted, where the first is another
uncounted : (n m a b : ℕ) (d : Dec (n ≡ m)) → m < n → a ≡ 0 → b ≡ 0 → one_if d + (a + b) ≡ 0
uncounted n m a b (yes e) above x y = absurd (omega arith)
uncounted n m a b (no other) above x y = omega arith

-- a number above the greatest of a node is that of none
above-unused : (n : ℕ) (g : Trees) → greatest_node g < n → node_uses n g ≡ 0
above-unused n none h = refl
above-unused n (hole r) h = above-unused n r h
above-unused n (node s i k l r) h =
    uncounted n i (node_uses n k) (node_uses n r) (ℕ_discrete n i) (omega arith)
    (above-unused n k (omega arith)) (above-unused n r (omega arith))

-- and one above the greatest of a list
above-unlisted : (n : ℕ) (g : Trees) → greatest_list g < n → list_uses n g ≡ 0
above-unlisted n none h = refl
above-unlisted n (hole r) h = above-unlisted n r h
above-unlisted n (node s i k l r) h =
    uncounted n l (list_uses n k) (list_uses n r) (ℕ_discrete n l) (omega arith)
    (above-unlisted n k (omega arith)) (above-unlisted n r (omega arith))

-- the next pick is free
pub next-free : (g : Trees) → is_free (next_pick g) g ≡ true
next-free g = λ i. not (positive (above-unused (suc (greatest_node g)) g (omega arith) i))
    && not (positive (above-unlisted (suc (greatest_list g)) g (omega arith) i))
