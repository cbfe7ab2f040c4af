-- Needn't be believed: only a law speaks of it. Lists of roots that differ in their order alone, as
-- PODS 2008 reads groves; `same_groves_are_reordered` says that they are the same groves.
use Rattle.std.specs.Prelude.{ℕ}
use Rattle.model_shapes.specs.Values.{Name}
use Rattle.model_shapes.specs.Trees.{Trees, none, node, hole, beside}

-- the first root of one stands anywhere in the other, and the remaining roots are reordered
pub data Reordered : Trees → Trees → Type 0 where
  nothing : Reordered none none
  moved_node : (name : Name) (number : ℕ) (kids : Trees) (list : ℕ) (rest before after : Trees)
      → Reordered rest (beside before after)
      → Reordered (node name number kids list rest)
      (beside before (node name number kids list after))
  moved_hole : (rest before after : Trees) → Reordered rest (beside before after)
      → Reordered (hole rest) (beside before (hole after))
