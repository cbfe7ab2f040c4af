-- The numbers of the nodes and children lists of a document: the first that is out of range, and
-- the first that repeats.
use Rattle.model_limits.specs.Limits.{standard_limits}
use Rattle.std.specs.Prelude.{ℕ, Bool, false, not, ◌&&◌, ◌==◌, nat_le, cond, List, [], ◌∷◌, ◌++◌, Option, Some, None}
use Rattle.std.specs.List.{list_any, find}
use Rattle.model_shapes.specs.Trees.{Trees, none, node, hole}

-- the number of a node, or of a children list
pub data Numbered : Type 0 where
  node_numbered list_numbered : ℕ → Numbered

-- equality: of the same kind, with the same number
abbrev pub same_numbered : Numbered → Numbered → Bool
same_numbered (node_numbered m) (node_numbered n) = m == n
same_numbered (list_numbered m) (list_numbered n) = m == n
same_numbered a b = false

-- the numbers in the order of the text: that of a list stands behind its children
abbrev pub numbers_written : Trees → List Numbered
numbers_written none = []
numbers_written (node name number kids list rest) =
    node_numbered number ∷ (numbers_written kids ++ (list_numbered list ∷ numbers_written rest))
numbers_written (hole rest) = numbers_written rest

-- from 1 to the greatest
abbrev pub is_in_range : Numbered → Bool
is_in_range (node_numbered n) = nat_le 1 n && nat_le n standard_limits.identifier
is_in_range (list_numbered n) = nat_le 1 n && nat_le n standard_limits.identifier

-- OUT OF RANGE: the first number in the order of the text that is
abbrev pub first_out_of_range : Trees → Option Numbered
first_out_of_range trees = find (λ n. not (is_in_range n)) (numbers_written trees)

-- the numbers in document order: a tree before its children, and the number of a node before that
-- of its list
abbrev pub numbers_in : Trees → List Numbered
numbers_in none = []
numbers_in (node name number kids list rest) =
    node_numbered number ∷ (list_numbered list ∷ (numbers_in kids ++ numbers_in rest))
numbers_in (hole rest) = numbers_in rest

-- the first that is among those before it
abbrev pub first_repeat_behind : List Numbered → List Numbered → Option Numbered
first_repeat_behind before [] = None
first_repeat_behind before (n ∷ rest) =
    cond (list_any (same_numbered n) before) (Some n) (first_repeat_behind (n ∷ before) rest)

-- REPEATED: the first number in document order that stood before
abbrev pub first_repeat : Trees → Option Numbered
first_repeat trees = first_repeat_behind [] (numbers_in trees)
