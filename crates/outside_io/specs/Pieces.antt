-- What one fetch puts into a buffer, and what a sink takes.
use Rattle.std.specs.Prelude.{◌≡◌, ◌⊎◌, ℕ, ◌≤◌, List, ◌++◌, take, drop, length, Option, Some}

-- `count` bytes of the book from `at` on stand at the front of the buffer, and there are none
-- only where the buffer has no place or the book has ended
pub record GivesPiece (book : List ℕ) (at count : ℕ) (buffer : List ℕ) : Type 0 where
  pub bytes : take count buffer ≡ take count (drop at book)
  pub none : count ≡ 0 → (length buffer ≡ 0) ⊎ (length book ≤ at)

-- where the sink told what it had taken, it now has these bytes after them
abbrev pub Took : Option (List ℕ) → Option (List ℕ) → List ℕ → Type 0
Took before after bytes = (taken : List ℕ) → before ≡ Some taken → after ≡ Some (taken ++ bytes)

-- where the sink told what it had taken, it now has a prefix of these bytes after them
abbrev pub TookPrefix : Option (List ℕ) → Option (List ℕ) → List ℕ → Type 0
TookPrefix before after bytes =
    (taken : List ℕ) → before ≡ Some taken
    → (count : ℕ) × (after ≡ Some (taken ++ take count bytes))
