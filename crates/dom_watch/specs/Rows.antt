-- Needn't be believed: the contracts of private functions alone speak of it. What the rows of a
-- table stand for.
use Rattle.std.specs.Prelude.{◌≡◌, ◌≤◌, List, [], ◌∷◌, length, map, slice_range}
use Rattle.model_shapes.specs.Sorts.{Sort, value, node_sort, list_sort, str_sort}
use Rattle.model_shapes.specs.Values.{Value, null, node_number, list_number, str}
use Rattle.model_shapes.specs.Trees.{Trees, none, node}
use Rattle.dom_watch.specs.declared.rows.Row.{Row}

-- rows of siblings, in the table of all nodes, stand for these trees
abbrev pub Shows : List Row → List Row → Trees → Type 0
Shows all [] none = Unit {0}
Shows all (row ∷ rows) (node name number kids list rest) =
    (row.name.now ≡ name) × (row.number ≡ number) × (row.list ≡ list) × (row.first ≤ row.end)
    × (row.end ≤ length all) × Shows all (slice_range all row.first row.end) kids
    × Shows all rows rest
Shows all rows r = ⊥

-- the value of a sort that stands at a node
abbrev pub value_at : Sort → Row → Value
value_at (value node_sort) row = node_number row.number
value_at (value list_sort) row = list_number row.list
value_at (value str_sort) row = str row.name.now
value_at s row = null

-- those of all nodes
abbrev pub values_at : List Row → Sort → List Value
values_at rows s = map (value_at s) rows
