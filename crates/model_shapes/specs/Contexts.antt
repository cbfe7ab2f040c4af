-- Needn't be believed: only laws speak of it. Contexts with one hole by construction, as POPL 2005
-- has them, and the plain ones that they stand for: each plain one comes from one of these alone.
use Rattle.std.specs.Prelude.{◌≡◌, ℕ}
use Rattle.model_shapes.specs.Sorts.{DataSort, tree, forest, grove}
use Rattle.model_shapes.specs.Values.{Name}
use Rattle.model_shapes.specs.Trees.{Trees, none, node, hole, beside}
use Rattle.model_shapes.specs.Shapes.{holes, SameAt}

mutual
  -- the hole, or a node round a forest context
  pub data TreeContext : Type 0 where
    tree_hole : TreeContext
    around_node : Name → ℕ → ForestContext → ℕ → TreeContext

  -- a left forest, an inner part and a right forest
  pub data ForestContext : Type 0 where
    between : Trees → ForestInner → Trees → ForestContext

  -- the hole for a forest, or one tree context
  pub data ForestInner : Type 0 where
    forest_hole : ForestInner
    one_context : TreeContext → ForestInner

-- the hole for a grove, or one root that is a tree context, and the rest of the roots
pub data GroveContext : Type 0 where
  grove_hole : Trees → GroveContext
  root_context : TreeContext → Trees → GroveContext

-- the plain context that each stands for: the hole with its surroundings as trees
abbrev mutual
  pub tree_thing : TreeContext → Trees
  tree_thing tree_hole = hole none
  tree_thing (around_node name number inside list) =
      node name number (forest_thing inside) list none

  pub forest_thing : ForestContext → Trees
  forest_thing (between left inside right) = beside left (beside (inner_thing inside) right)

  pub inner_thing : ForestInner → Trees
  inner_thing forest_hole = hole none
  inner_thing (one_context inside) = tree_thing inside

-- the sort of the hole
abbrev mutual
  pub tree_hole_sort : TreeContext → DataSort
  tree_hole_sort tree_hole = tree
  tree_hole_sort (around_node name number inside list) = forest_hole_sort inside

  pub forest_hole_sort : ForestContext → DataSort
  forest_hole_sort (between left inside right) = inner_hole_sort inside

  pub inner_hole_sort : ForestInner → DataSort
  inner_hole_sort forest_hole = forest
  inner_hole_sort (one_context inside) = tree_hole_sort inside

-- a grove context as a plain one, and the sort of its hole
abbrev pub grove_thing : GroveContext → Trees
grove_thing (grove_hole rest) = hole rest
grove_thing (root_context root rest) = beside (tree_thing root) rest

abbrev pub grove_hole_sort : GroveContext → DataSort
grove_hole_sort (grove_hole rest) = grove
grove_hole_sort (root_context root rest) = tree_hole_sort root

-- the forests and roots beside the hole have no hole of their own
abbrev mutual
  pub TreeBare : TreeContext → Type 0
  TreeBare tree_hole = Unit
  TreeBare (around_node name number inside list) = ForestBare inside

  pub ForestBare : ForestContext → Type 0
  ForestBare (between left inside right) =
      (holes left ≡ 0) × InnerBare inside × (holes right ≡ 0)

  pub InnerBare : ForestInner → Type 0
  InnerBare forest_hole = Unit
  InnerBare (one_context inside) = TreeBare inside

-- the same of a grove context
abbrev pub GroveBare : GroveContext → Type 0
GroveBare (grove_hole rest) = holes rest ≡ 0
GroveBare (root_context root rest) = TreeBare root × (holes rest ≡ 0)

-- grove contexts are the same where their inner parts are equal and their rests the same grove
abbrev pub SameContext : GroveContext → GroveContext → Type 0
SameContext (grove_hole a) (grove_hole b) = SameAt grove a b
SameContext (root_context t a) (root_context u b) = (t ≡ u) × SameAt grove a b
SameContext c d = ⊥
