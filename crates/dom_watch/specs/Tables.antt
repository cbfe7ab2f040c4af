-- Needn't be believed: the contracts of private functions alone speak of it. Tables of all nodes of
-- a grove, and how they are made.
use Rattle.std.specs.Prelude.{◌≡◌, ◌≤◌, ◌+◌, ℕ, List, ◌++◌, Some, length, map, take, slice_range, slice_set, slice_get}
use Rattle.std.specs.List.{All}
use Rattle.model_shapes.specs.Trees.{Trees}
use Rattle.model_heap.specs.Entries.{Entry, rows_of, uses, kids_of}
use Rattle.model_watch.specs.Watching.{Values}
use Rattle.dom_watch.specs.declared.rows.Row.{Row}
use Rattle.dom_watch.specs.Rows.{Shows, values_at}

-- the numbers of rows
abbrev pub numbers_of : List Row → List ℕ
numbers_of rows = map (λ (row : Row). row.number) rows

-- a node with the number stands in the grove
abbrev pub IsKnown : Trees → ℕ → Type 0
IsKnown g n = 1 ≤ uses n g

-- the row has the name and the list number of what stands in the grove at its number
pub record StandsIn (g : Trees) (row : Row) : Type 0 where
  pub entry : Entry
  pub is : rows_of g row.number ≡ Some entry
  pub name : row.name.now ≡ entry.name
  pub list : row.list ≡ entry.list

-- among the numbers of all rows, those between the places of the row are those of its children
pub record IsLaid (numbers : List ℕ) (g : Trees) (row : Row) : Type 0 where
  pub up : row.first ≤ row.end
  pub within : row.end ≤ length numbers
  pub kids : slice_range numbers row.first row.end ≡ kids_of (rows_of g row.number)

-- The rows of the children of the row at the place came to the end, and their places into that row.
pub record HasLaid (g : Trees) (place : ℕ) (old new : List Row) : Type 0 where
  pub row : Row
  pub more : List Row
  pub was : slice_get old place ≡ Some row
  pub is : new ≡ slice_set (old ++ more) place
      (record row { first = length old; end = length old + length more })
  pub kids : numbers_of more ≡ kids_of (rows_of g row.number)
  pub stand : All (StandsIn g) more

-- THE TABLE: the first so many rows stand for the grove, and quantifiers may go over what stands at
-- the rows
pub record Tabled (all : List Row) (roots : ℕ) (g : Trees) : Type 0 where
  pub within : roots ≤ length all
  pub shows : Shows all (take roots all) g
  pub serves : Values (values_at all) g
