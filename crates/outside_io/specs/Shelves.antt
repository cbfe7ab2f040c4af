-- Needn't be believed: what a shelf is to its callers, the library in memory, which tells every
-- book and every count. The program reads from none.
use Rattle.std.specs.Prelude.{◌≡◌, ◌⊎◌, ℕ, ◌-◌, min, Bool, List, ◌++◌, length, take, drop}
use Rattle.std.specs.Prelude.{Option, Some, None, bytes_eq, find, Contains}
use Rattle.outside_io.specs.Causes.{next_count}

-- a book: its name, its bytes, and how often a fetch of it has failed
pub record Entry : Type 0 where
  pub name : List ℕ
  pub bytes : List ℕ
  pub faults : ℕ

-- the books; the one count of failed fetches for all names that aren't there; how many fetches
-- there were; and the fetch calls, counted from 1, that fail
pub record ShelfState : Type 0 where
  pub entries : List Entry
  pub further : ℕ
  pub calls : ℕ
  pub failing : List ℕ

-- whether a book has this name
abbrev pub has_name : List ℕ → Entry → Bool
has_name name entry = bytes_eq entry.name name

-- the bytes of a book, if there is one
abbrev pub bytes_in : Option Entry → Option (List ℕ)
bytes_in (Some entry) = Some entry.bytes
bytes_in None = None

-- the count of a book, or the further count where there is none
abbrev pub faults_in : ℕ → Option Entry → ℕ
faults_in further (Some entry) = entry.faults
faults_in further None = further

-- the bytes under a name
abbrev pub shelf_book : ShelfState → List ℕ → Option (List ℕ)
shelf_book shelf name = bytes_in (find (has_name name) shelf.entries)

-- how often a fetch of a name has failed
abbrev pub shelf_faults : ShelfState → List ℕ → ℕ
shelf_faults shelf name = faults_in shelf.further (find (has_name name) shelf.entries)

-- the next fetch of a name fails: the name isn't there, or the call is one of those that fail
abbrev pub FetchFails : ShelfState → List ℕ → Type 0
FetchFails shelf name =
    (shelf_book shelf name ≡ None) ⊎ Contains shelf.failing (next_count shelf.calls)

-- the books are as before
abbrev pub SameBooks : ShelfState → ShelfState → Type 0
SameBooks before after = (name : List ℕ) → shelf_book after name ≡ shelf_book before name

-- as many bytes of the book from `at` on as there are and fit were put over the front of the
-- buffer, and the rest of it stayed
pub record PutsPiece (book : List ℕ) (at count : ℕ) (before after : List ℕ) : Type 0 where
  pub size : count ≡ min (length book - at) (length before)
  pub bytes : after ≡ take count (drop at book) ++ drop count before
