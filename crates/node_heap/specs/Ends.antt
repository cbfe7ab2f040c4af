-- Needn't be believed: the contracts of private functions alone speak of it. The two nodes that a
-- move is about.
use Rattle.std.specs.Prelude.{◌≡◌, ◌⊎◌, ℕ, List, Some, None}
use Rattle.slab.specs.Slab.{Slab}
use Rattle.node_heap.specs.declared.records.Record.{Record}
use Rattle.node_heap.specs.declared.index.Pair.{Pair}
use Rattle.node_heap.specs.Indexes.{lookup}
use Rattle.node_heap.specs.Heap.{grove_of, Linked}

-- the records and the index of nodes are those of a heap
pub record OfHeap (s : Slab Record) (nodes : List Pair) : Type 0 where
  pub lists : List Pair
  pub linked : Linked s nodes lists (grove_of s nodes)

-- the index has both numbers, at these keys
pub record HasBoth (nodes : List Pair) (parent child above below : ℕ) : Type 0 where
  pub parent_at : Some above ≡ lookup parent nodes
  pub child_at : Some below ≡ lookup child nodes

-- it lacks one of them
abbrev pub LacksOne : List Pair → ℕ → ℕ → Type 0
LacksOne nodes parent child = (None ≡ lookup parent nodes) ⊎ (None ≡ lookup child nodes)
