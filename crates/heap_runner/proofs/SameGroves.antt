-- Groves that are the same up to the order of roots have the same limits and the same next numbers.
use Rattle.std.proofs.Common.{◌≡◌, ℕ, suc, ◌+◌, nat_le, ◌&&◌, List, [], ◌∷◌, refl, arith}
use Rattle.std.specs.Prelude.{max}
use Rattle.model_shapes.specs.Sorts.{grove}
use Rattle.model_shapes.specs.Trees.{Trees, none, node, hole, beside}
use Rattle.model_shapes.specs.Shapes.{SameAt}
use Rattle.model_shapes.specs.Reordered.{Reordered, nothing, moved_node, moved_hole}
use Rattle.model_shapes.proofs.Shapes.{same-at}
use Rattle.model_shapes.proofs.Reorders.{same-reordered}
use Rattle.model_terms.specs.Stores.{Store}
use Rattle.model_terms.specs.TermLimits.{or_else, unless}
use Rattle.model_commands.specs.Commands.{skip, block, assign, create_node, node_name, child_nodes, parent_node, list_item, append_child, remove_child, insert_before, if_else, while_do, local, call}
use Rattle.model_groves.specs.Picks.{next_pick}
use Rattle.model_groves.specs.Sizes.{size, greatest_node, greatest_list}
use Rattle.model_limits.specs.Limits.{nodes_limit, identifier_limit, standard_limits}
use Rattle.model_machine.specs.Machine.{Piece, run, restore, return, configuration}
use Rattle.model_machine.specs.Outcomes.{piece_limit}
use Rattle.heap_runner.specs.Turns.{limit_here}

size-beside : (a b : Trees) → size (beside a b) ≡ size a + size b
size-beside none b = omega arith
size-beside (node s i k l r) b = omega (arith, size-beside r b)
size-beside (hole r) b = size-beside r b

node-beside : (a b : Trees) → greatest_node (beside a b) ≡ max (greatest_node a) (greatest_node b)
node-beside none b = omega arith
node-beside (node s i k l r) b = omega (arith, node-beside r b)
node-beside (hole r) b = node-beside r b

list-beside : (a b : Trees) → greatest_list (beside a b) ≡ max (greatest_list a) (greatest_list b)
list-beside none b = omega arith
list-beside (node s i k l r) b = omega (arith, list-beside r b)
list-beside (hole r) b = list-beside r b

-- a greatest number among roots is that of the same roots in another order
module _ (f : Trees → ℕ) (joins : (a b : Trees) → f (beside a b) ≡ max (f a) (f b)) where
  reordered-max : {a b : Trees} → Reordered a b → f a ≡ f b
  reordered-max nothing = refl
  reordered-max (moved_node s i k l a p q r) =
      omega (
        arith,
        reordered-max r,
        joins p q,
        joins p (node s i k l q),
        joins (node s i k l none) q,
        joins (node s i k l none) a,
      )
  reordered-max (moved_hole a p q r) =
      omega (
        arith,
        reordered-max r,
        joins p q,
        joins p (hole q),
        joins (hole none) q,
        joins (hole none) a,
      )

module _ (a b : Trees) (same : SameAt grove a b) where
  pub same-size : size a ≡ size b
  same-size = same-at size size-beside grove a b same

  same-node : greatest_node a ≡ greatest_node b
  same-node = reordered-max greatest_node node-beside (same-reordered a b same)

  same-list : greatest_list a ≡ greatest_list b
  same-list = reordered-max greatest_list list-beside (same-reordered a b same)

  pub same-pick : next_pick a ≡ next_pick b
  same-pick = λ i. record { node = suc (same-node i); list = suc (same-list i) }

  -- the limit that is passed
  pub same-limit : (k : List Piece) (store : Store)
      → limit_here (configuration k store a) ≡ limit_here (configuration k store b)
  same-limit [] store = refl
  same-limit (run (create_node x t) ∷ rest) store = λ i.
      or_else (or_else (piece_limit standard_limits (run (create_node x t)) store)
      (unless (nat_le (1 + same-size i) standard_limits.nodes) nodes_limit))
      (unless (nat_le (1 + same-node i) standard_limits.identifier
      && nat_le (1 + same-list i) standard_limits.identifier) identifier_limit)
  same-limit (run skip ∷ rest) store = refl
  same-limit (run (block c) ∷ rest) store = refl
  same-limit (run (assign x t) ∷ rest) store = refl
  same-limit (run (node_name x t) ∷ rest) store = refl
  same-limit (run (child_nodes x t) ∷ rest) store = refl
  same-limit (run (parent_node x t) ∷ rest) store = refl
  same-limit (run (list_item x t u) ∷ rest) store = refl
  same-limit (run (append_child t u) ∷ rest) store = refl
  same-limit (run (remove_child t u) ∷ rest) store = refl
  same-limit (run (insert_before t u v) ∷ rest) store = refl
  same-limit (run (if_else c d e) ∷ rest) store = refl
  same-limit (run (while_do c d) ∷ rest) store = refl
  same-limit (run (local x d) ∷ rest) store = refl
  same-limit (run (call xs name es) ∷ rest) store = refl
  same-limit (restore x v ∷ rest) store = refl
  same-limit (return caller rs xs ∷ rest) store = refl
