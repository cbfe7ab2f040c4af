-- Needn't be believed: the contracts of private functions alone speak of it. What a record of a
-- heap holds, and the writes to it.
use Rattle.std.specs.Prelude.{◌≡◌, ℕ, ◌==◌, Bool, false, cond, List, Option, Some, None, option_map}
use Rattle.model_heap.specs.Lists.{holds}
use Rattle.std.specs.Option.{ForSome, MatchOption}
use Rattle.slab.specs.Slab.{Slab, get, ContainsKey}
use Rattle.node_heap.specs.declared.records.Record.{Record}

-- the place before a row's first, if nothing stands before
abbrev pub at_end : Option ℕ → ℕ → ℕ → Bool
at_end None parent key = parent == key
at_end (Some x) parent key = false

-- what follows `previous` in the row of `parent` is now `to`
abbrev pub forwarded : Option ℕ → ℕ → Option ℕ → ℕ → Record → Record
forwarded previous parent to key r =
    record r {
      next = cond (holds previous key) to r.next;
      first =
          cond (at_end previous parent key) to r.first;
    }

-- what stands before `next` in the row of `parent` is now `to`
abbrev pub backwarded : Option ℕ → ℕ → Option ℕ → ℕ → Record → Record
backwarded next parent to key r =
    record r {
      previous = cond (holds next key) to r.previous;
      last =
          cond (at_end next parent key) to r.last;
    }

abbrev pub placed : ℕ → Option ℕ → Option ℕ → Option ℕ → ℕ → Record → Record
placed at parent previous next key r =
    cond (at == key) (record r { parent = parent; previous = previous; next = next }) r

abbrev pub linked : Option ℕ → ℕ → Option ℕ → Option ℕ → Option ℕ → ℕ → Option ℕ → Option ℕ
    → Option ℕ → ℕ → Record → Record
linked before_it parent to after_it back at up left right key r =
    placed at up left right key (backwarded after_it parent back key
    (forwarded before_it parent to key r))

-- each key's record becomes this
abbrev pub Becomes : Slab Record → Slab Record → (ℕ → Record → Record) → Type 0
Becomes old new f = (key : ℕ) → get new key ≡ option_map (f key) (get old key)

-- the record at a key leaves its row
abbrev pub TakesOut : Slab Record → Slab Record → ℕ → Record → Type 0
TakesOut old new key r =
    MatchOption r.parent (new ≡ old) (λ parent. Becomes old new
    (linked r.previous parent r.next r.next r.previous key None None None))

-- it comes to the end of the row of a parent
abbrev pub PutsLast : Slab Record → Slab Record → ℕ → ℕ → Record → Type 0
PutsLast old new parent key r =
    Becomes old new (linked r.last parent (Some key) None (Some key) key (Some parent) r.last None)

-- it comes before the record at another key, in the row of a parent
abbrev pub PutsBefore : Slab Record → Slab Record → ℕ → ℕ → ℕ → Record → Type 0
PutsBefore old new parent next key r =
    Becomes old new (linked r.previous parent (Some key) (Some next) (Some key) key (Some parent)
    r.previous (Some next))

-- the neighbours of a record have records
pub record Neighbours (s : Slab Record) (r : Record) : Type 0 where
  pub parent : ForSome r.parent (ContainsKey s)
  pub previous : ForSome r.previous (ContainsKey s)
  pub next : ForSome r.next (ContainsKey s)
  pub last : ForSome r.last (ContainsKey s)

-- the record of a new root without children
pub record IsNew (n a : ℕ) (text : List ℕ) (r : Record) : Type 0 where
  pub number : r.number ≡ n
  pub name : r.name ≡ text
  pub list : r.list ≡ a
  pub parent : r.parent ≡ None
  pub previous : r.previous ≡ None
  pub next : r.next ≡ None
  pub first : r.first ≡ None
  pub last : r.last ≡ None
