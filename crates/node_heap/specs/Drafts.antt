-- Needn't be believed: the contracts of private functions alone speak of it. Heaps in the making.
use Rattle.std.specs.Prelude.{◌≡◌, ◌≤◌, ℕ, List, [], ◌∷◌, Option, Some, None, length, map}
use Rattle.std.specs.Option.{option_map}
use Rattle.model_shapes.specs.Trees.{Trees}
use Rattle.model_heap.specs.Lists.{count}
use Rattle.model_heap.specs.Growing.{Frame, completing}
use Rattle.grove_data.specs.Trees.{forest_of}
use Rattle.slab.specs.Slab.{Slab}
use Rattle.node_heap.specs.declared.records.Record.{Record}
use Rattle.node_heap.specs.declared.index.Pair.{Pair}
use Rattle.node_heap.specs.declared.building.Siblings.{Siblings}
use Rattle.node_heap.specs.Indexes.{lookup, numbers, Rising}
use Rattle.node_heap.specs.Heap.{Linking}

-- no number stands twice
abbrev pub IsOnce : List Pair → Type 0
IsOnce index = (n : ℕ) → count n (numbers index) ≤ 1

-- the second index says the same as the first, and rises
pub record IsSorted (index sorted : List Pair) : Type 0 where
  pub rising : Rising sorted
  pub same : (n : ℕ) → lookup n sorted ≡ lookup n index
  pub len : length sorted ≡ length index

-- the records and the two indexes are the links of a grove, and say no number twice
pub record IsDraft (s : Slab Record) (nodes lists : List Pair) (g : Trees) : Type 0 where
  pub links : Linking s nodes lists g
  pub nodes_once : IsOnce nodes
  pub lists_once : IsOnce lists

-- where trees are still to be put
abbrev pub frame_of : Siblings → Frame
frame_of siblings = record {
  parent = option_map (λ (pair : Pair). pair.number) siblings.parent;
  trees = forest_of siblings.trees.now;
}

-- the index has the parent
abbrev pub Knows : List Pair → Option Pair → Type 0
Knows nodes None = Unit {0}
Knows nodes (Some pair) = lookup pair.number nodes ≡ Some pair.key

-- it has the parents of all that are still to be read
abbrev pub KnowsAll : List Pair → List Siblings → Type 0
KnowsAll nodes [] = Unit {0}
KnowsAll nodes (siblings ∷ rest) = Knows nodes siblings.parent × KnowsAll nodes rest

-- a draft of a part, which comes to be the whole grove with what is still to be read
pub record Part (s : Slab Record) (nodes lists : List Pair) (rest : List Siblings)
    (whole : Trees) : Type 0 where
  pub grove : Trees
  pub draft : IsDraft s nodes lists grove
  pub completes : completing (map frame_of rest) grove ≡ whole
  pub knows : KnowsAll nodes rest
