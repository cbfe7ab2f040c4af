-- Needn't be believed: the invariant of heaps speaks of it. The records that stand for a grove.
use Rattle.std.specs.Prelude.{◌≡◌, ℕ, List, [], Option, Some, None, option_map, IsSome}
use Rattle.std.specs.Option.{IsSomeAnd}
use Rattle.model_heap.specs.Lists.{head_of, last_of, after, before}
use Rattle.model_heap.specs.Entries.{Entry, Rows, kids_of}
use Rattle.slab.specs.Slab.{Slab, get}
use Rattle.node_heap.specs.declared.records.Record.{Record}

-- the children of a parent; roots have no row
abbrev pub row : Rows → Option ℕ → List ℕ
row rows None = []
row rows (Some p) = kids_of (rows p)

-- THE LINKS of a number: its record, where `key` gives the key of each number
pub record Fits (key : ℕ → ℕ) (rows : Rows) (n : ℕ) (e : Entry) (r : Record) : Type 0 where
  pub number : r.number ≡ n
  pub name : r.name ≡ e.name
  pub list : r.list ≡ e.list
  pub parent : r.parent ≡ option_map key e.parent
  pub previous : r.previous ≡ option_map key (before n (row rows e.parent))
  pub next : r.next ≡ option_map key (after n (row rows e.parent))
  pub first : r.first ≡ option_map key (head_of e.kids)
  pub last : r.last ≡ option_map key (last_of e.kids)

-- each number that stands somewhere has its record, and no two have one key
pub record Stands (key : ℕ → ℕ) (rows : Rows) (s : Slab Record) : Type 0 where
  pub apart : (n m : ℕ) → IsSome (rows n) → IsSome (rows m) → key n ≡ key m → n ≡ m
  pub fits : (n : ℕ) (e : Entry) → rows n ≡ Some e → IsSomeAnd (get s (key n)) (Fits key rows n e)
