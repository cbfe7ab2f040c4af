-- Groves that are the same up to the order of roots have the same next numbers and parents, so a
-- step changes both alike.
use Rattle.std.proofs.Common.{◌≡◌, ℕ, suc, List, [], ◌∷◌, Some, refl, ap, arith}
use Rattle.std.specs.Prelude.{max}
use Rattle.model_shapes.specs.Sorts.{grove}
use Rattle.model_shapes.specs.Trees.{Trees, none, node, hole, beside, WellFormed}
use Rattle.model_shapes.specs.Shapes.{SameAt}
use Rattle.model_shapes.specs.Reordered.{Reordered, nothing, moved_node, moved_hole}
use Rattle.model_shapes.proofs.Reorders.{same-reordered}
use Rattle.model_shapes.proofs.Narrow.{narrow}
use Rattle.model_terms.specs.Stores.{Store, value_of}
use Rattle.model_commands.specs.Commands.{skip, block, assign, create_node, node_name, child_nodes, parent_node, list_item, append_child, remove_child, insert_before, if_else, while_do, local, call}
use Rattle.model_groves.specs.Groves.{nodes_where, parental, first_number}
use Rattle.model_groves.specs.Picks.{next_pick}
use Rattle.model_groves.specs.Sizes.{greatest_node, greatest_list}
use Rattle.model_groves.proofs.Groves.{those-beside, same-after, width-parental}
use Rattle.model_machine.specs.Machine.{Piece, run, restore, return, configuration}
use Rattle.model_machine.specs.Changes.{created, moved, change_of, number_in}

node-beside : (a b : Trees) → greatest_node (beside a b) ≡ max (greatest_node a) (greatest_node b)
node-beside none b = omega arith
node-beside (node s i k l r) b = omega (arith, node-beside r b)
node-beside (hole r) b = node-beside r b

list-beside : (a b : Trees) → greatest_list (beside a b) ≡ max (greatest_list a) (greatest_list b)
list-beside none b = omega arith
list-beside (node s i k l r) b = omega (arith, list-beside r b)
list-beside (hole r) b = list-beside r b

module _ (f : Trees → ℕ) (joins : (a b : Trees) → f (beside a b) ≡ max (f a) (f b)) where
  reordered-max : {a b : Trees} → Reordered a b → f a ≡ f b
  reordered-max nothing = refl
  reordered-max (moved_node s i k l a p q r) =
      omega (
        arith,
        reordered-max r,
        joins p q,
        joins p (node s i k l q),
        joins (node s i k l none) q,
        joins (node s i k l none) a,
      )
  reordered-max (moved_hole a p q r) =
      omega (
        arith,
        reordered-max r,
        joins p q,
        joins p (hole q),
        joins (hole none) q,
        joins (hole none) a,
      )

module _ (a b : Trees) (same : SameAt grove a b) (w : WellFormed a) where
  same-node : greatest_node a ≡ greatest_node b
  same-node = reordered-max greatest_node node-beside (same-reordered a b same)

  same-list : greatest_list a ≡ greatest_list b
  same-list = reordered-max greatest_list list-beside (same-reordered a b same)

  same-parent : (i : ℕ) → first_number (nodes_where (parental i) a)
      ≡ first_number (nodes_where (parental i) b)
  same-parent i =
      ap first_number (narrow (nodes_where (parental i) a) (nodes_where (parental i) b)
      (omega (arith, width-parental i a, w.nodes_once i))
      (same-after (nodes_where (parental i)) (those-beside (parental i)) a b same))

  pub same-next : next_pick a ≡ next_pick b
  same-next = λ i. record { node = suc (same-node i); list = suc (same-list i) }

  pub same-change : (n : ℕ) (pending : List Piece) (store : Store)
      → change_of n (next_pick a) (configuration pending store a)
      ≡ change_of n (next_pick b) (configuration pending store b)
  same-change n [] st = refl
  same-change n (run (create_node x e) ∷ rest) st =
      λ i. Some (created n (suc (same-node i)) (suc (same-list i)))
  same-change n (run (append_child e f) ∷ rest) st =
      λ i. Some (moved n (number_in (value_of st f))
      (number_in (same-parent (number_in (value_of st f)) i)) (number_in (value_of st e)) 0)
  same-change n (run (insert_before e f g) ∷ rest) st =
      λ i. Some (moved n (number_in (value_of st f))
      (number_in (same-parent (number_in (value_of st f)) i)) (number_in (value_of st e))
      (number_in (value_of st g)))
  same-change n (run (remove_child e f) ∷ rest) st = refl
  same-change n (run skip ∷ rest) st = refl
  same-change n (run (block b) ∷ rest) st = refl
  same-change n (run (assign x e) ∷ rest) st = refl
  same-change n (run (if_else c x y) ∷ rest) st = refl
  same-change n (run (while_do c x) ∷ rest) st = refl
  same-change n (run (local x y) ∷ rest) st = refl
  same-change n (run (call xs f es) ∷ rest) st = refl
  same-change n (run (node_name x e) ∷ rest) st = refl
  same-change n (run (child_nodes x e) ∷ rest) st = refl
  same-change n (run (parent_node x e) ∷ rest) st = refl
  same-change n (run (list_item x e f) ∷ rest) st = refl
  same-change n (restore x v ∷ rest) st = refl
  same-change n (return s rs xs ∷ rest) st = refl
