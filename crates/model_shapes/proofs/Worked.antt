-- Worked rows, by computing: filling, composing, and a filling whose numbers clash.
use Rattle.std.proofs.Common.{◌≡◌, ℕ, ◌≤◌, refl, arith, List}
use Rattle.std.specs.Prelude.{codes}
use Rattle.model_shapes.specs.Trees.{Trees, none, node, hole, fill, WellFormed}
use Rattle.model_shapes.specs.Shapes.{OneHole}
use Rattle.model_shapes.specs.Sorts.{forest, grove}
use Rattle.model_shapes.specs.Reordered.{Reordered, nothing, moved_node}
use Rattle.model_shapes.proofs.Truth.{false≢true}

-- a tree by itself, with one number for the node and for its list
abbrev leaf : List ℕ → ℕ → Trees → Trees
leaf name i rest = node name i none i rest

-- the forest hole behind a tree
abbrev after_a : Trees
after_a = leaf (codes "a") 1 (hole none)

-- it is filled with a tree of another number
filled : fill after_a (leaf (codes "b") 2 none) ≡ leaf (codes "a") 1 (leaf (codes "b") 2 none)
filled = refl

-- with a tree of the same number the result is not well formed
clash : WellFormed (fill after_a (leaf (codes "b") 1 none)) → ⊥
unfolding native.Mathlib.Decide.ℕ_discrete
clash w = two (w.nodes_once 1)
  where
    two : 2 ≤ 1 → ⊥
    two h = omega arith

-- composed with the bare hole it is as before
composed : fill after_a (hole none) ≡ after_a
composed = refl

-- a context with a hole for a forest is one of forests, and none of trees or groves
of_forests : OneHole forest forest after_a
of_forests = record { one = refl; stands = refl }

of_no_groves : OneHole forest grove after_a → ⊥
of_no_groves o = false≢true o.stands

-- the order of the roots of a grove means nothing
reordered : Reordered (leaf (codes "a") 1 (leaf (codes "b") 2 none))
    (leaf (codes "b") 2 (leaf (codes "a") 1 none))
reordered =
    moved_node (codes "a") 1 none 1 (leaf (codes "b") 2 none) (leaf (codes "b") 2 none) none
    (moved_node (codes "b") 2 none 2 none none none nothing)
