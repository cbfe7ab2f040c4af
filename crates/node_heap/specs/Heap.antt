-- Needn't be believed: a heap is made from a grove and read back as one by calls whose contracts
-- speak of groves alone. The grove that a heap stands for, and the invariant of heaps.
use Rattle.std.specs.Prelude.{◌≡◌, ◌≤◌, ℕ, zero, suc, List, [], ◌∷◌, Option, Some, None, is_some, length}
use Rattle.model_shapes.specs.Trees.{Trees, none, node, beside, WellFormed}
use Rattle.model_shapes.specs.Shapes.{holes}
use Rattle.model_heap.specs.Entries.{Entry, rows_of, uses}
use Rattle.model_groves.specs.Sizes.{size}
use Rattle.slab.specs.Slab.{Slab, get, slab_len}
use Rattle.node_heap.specs.declared.records.Record.{Record}
use Rattle.node_heap.specs.declared.index.Pair.{Pair}
use Rattle.node_heap.specs.Indexes.{lookup, key_in, numbers, Rising}
use Rattle.node_heap.specs.Links.{Stands}

-- what is read off a record, if there is one
abbrev pub on_record : Option Record → (Record → Trees) → Trees
on_record None f = none
on_record (Some r) f = f r

-- the tree of a root; another node has none
abbrev pub if_root : Option ℕ → Trees → Trees
if_root None tree = tree
if_root (Some parent) tree = none

-- the tree at a key and those that follow it, of at most so many nodes
unfoldable pub read : ℕ → Slab Record → Option ℕ → Trees
read zero records key = none
read (suc most) records None = none
read (suc most) records (Some key) =
    on_record (get records key) (λ r. node r.name r.number (read most records r.first) r.list
    (read most records r.next))

-- the tree at the key of a root
unfoldable pub root_of : ℕ → Slab Record → ℕ → Trees
root_of most records key =
    on_record (get records key) (λ r. if_root r.parent
    (node r.name r.number (read most records r.first) r.list none))

-- the trees of the roots among these numbers
unfoldable pub roots_of : ℕ → Slab Record → (ℕ → ℕ) → List ℕ → Trees
roots_of most records key [] = none
roots_of most records key (n ∷ rest) =
    beside (root_of most records (key n)) (roots_of most records key rest)

-- THE GROVE of the records and the index of nodes, its roots by rising number
unfoldable pub grove_of : Slab Record → List Pair → Trees
grove_of records nodes = roots_of (length nodes) records (key_in nodes) (numbers nodes)

-- the records and the two indexes, in whatever order, are the links of a grove
pub record Linking (s : Slab Record) (nodes lists : List Pair) (g : Trees) : Type 0 where
  pub well_formed : WellFormed g
  pub once : (n : ℕ) → uses n g ≤ 1
  pub whole : holes g ≡ 0
  pub sized : size g ≡ length nodes
  pub stands : Stands (key_in nodes) (rows_of g) s
  pub indexed : (n : ℕ) → is_some (lookup n nodes) ≡ is_some (rows_of g n)
  pub listed : (n : ℕ) (e : Entry) → rows_of g n ≡ Some e
      → lookup e.list lists ≡ Some (key_in nodes n)
  pub listed_only : (l k : ℕ) → lookup l lists ≡ Some k
      → (n : ℕ) × (e : Entry) × (rows_of g n ≡ Some e) × (e.list ≡ l) × (key_in nodes n ≡ k)
  pub records_len : slab_len s ≡ length nodes
  pub lists_len : length lists ≡ length nodes

-- THE INVARIANT: they are, with both indexes in rising order
pub record Linked (s : Slab Record) (nodes lists : List Pair) (g : Trees) : Type 0 where
  pub links : Linking s nodes lists g
  pub rising : Rising nodes
  pub rising_lists : Rising lists
