-- Needn't be believed: the contracts of private functions alone speak of it. What is written mark
-- by mark, and groves that are made mark by mark.
use Rattle.std.specs.Prelude.{◌≡◌, ℕ, Bool, false, cond, List, [], ◌∷◌, ◌++◌, codes}
use Rattle.std.specs.Fmt.{decimal}
use Rattle.model_shapes.specs.Trees.{Trees, none, node, beside}
use Rattle.model_documents.specs.Printed.{quoted}
use Rattle.grove_data.specs.Trees.{forest_of}
use Rattle.grove_data.specs.declared.trees.Tree.{Tree, out-Tree}
use Rattle.node_heap.specs.declared.records.Record.{Record}
use Rattle.node_heap.specs.Walking.{Said}

-- what stands before a node: whether it is the first root, stands below another, or behind one
abbrev pub bracket_text : Bool → Bool → Bool → List ℕ
bracket_text is_first is_below is_later =
    cond is_below (cond is_later (codes " * <") (codes "<"))
    (cond is_first (codes "[") (codes " + ["))

-- the text before its children
abbrev pub opening_text : List ℕ → List ℕ → ℕ → Bool → List ℕ
opening_text bracket name number has_kids =
    bracket ++ (quoted name ++ (codes "#" ++ (decimal number
    ++ (codes "[" ++ cond has_kids [] (codes "0f")))))

-- and behind them
abbrev pub closing_text : ℕ → Bool → List ℕ
closing_text list is_below =
    codes "]%" ++ (decimal list ++ cond is_below (codes ">") (codes "]"))

-- the text at a mark
abbrev pub piece : Bool → Said → List ℕ
piece is_first m =
    cond m.opens (opening_text (bracket_text is_first m.is_below m.is_later) m.name m.number
    m.has_kids) (closing_text m.list m.is_below)

-- the text at all marks, of which the first may be that of the first root
abbrev pub pieces : Bool → List Said → List ℕ
pieces is_first [] = []
pieces is_first (m ∷ ms) = piece is_first m ++ pieces false ms

-- the rows round a row, the next one first
abbrev pub stack_onto : List (List Tree) → List Trees → List Trees
stack_onto [] outer = outer
stack_onto (row ∷ rows) outer = stack_onto rows (forest_of row ∷ outer)

abbrev pub stack : List (List Tree) → List Trees
stack rows = stack_onto rows []

-- the next row, and those round it
abbrev pub next_of : List Trees → Trees
next_of [] = none
next_of (row ∷ outer) = row

abbrev pub outer_of : List Trees → List Trees
outer_of [] = []
outer_of (row ∷ outer) = outer

-- the row has a tree more at its end, the node without children
pub record EndsWithLeaf (r : Record) (old new : List Tree) : Type 0 where
  pub leaf : Tree
  pub at_end : new ≡ old ++ leaf ∷ []
  pub name : (out-Tree leaf).name ≡ r.name
  pub id : (out-Tree leaf).id ≡ r.number
  pub list : (out-Tree leaf).list ≡ r.list

-- the row after a mark, and those round it
abbrev pub row_then : Said → Trees → List Trees → Trees
row_then m row outer =
    cond m.opens none (beside (next_of outer) (node m.name m.number row m.list none))

abbrev pub outer_then : Said → Trees → List Trees → List Trees
outer_then m row outer = cond m.opens (row ∷ outer) (outer_of outer)

-- the row after all marks
abbrev pub built : List Said → Trees → List Trees → Trees
built [] row outer = row
built (m ∷ ms) row outer = built ms (row_then m row outer) (outer_then m row outer)
