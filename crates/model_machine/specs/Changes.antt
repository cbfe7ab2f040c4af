-- The changes of a run: which of its steps make, move or remove a node, with the numbers that say
-- which. They follow DOM Level 1 Core in what appendChild, removeChild and insertBefore do.
use Rattle.std.specs.Prelude.{ℕ, zero, suc, List, [], ◌∷◌, Option, Some, None}
use Rattle.model_shapes.specs.Values.{Value, node_number}
use Rattle.model_shapes.specs.Trees.{Trees}
use Rattle.model_terms.specs.Terms.{Term}
use Rattle.model_terms.specs.Stores.{value_of}
use Rattle.model_commands.specs.Commands.{create_node, append_child, remove_child, insert_before}
use Rattle.model_commands.specs.Theories.{Procedures}
use Rattle.model_groves.specs.Groves.{nodes_where, parental, first_number}
use Rattle.model_groves.specs.Picks.{Pick, next_pick}
use Rattle.model_machine.specs.Machine.{Piece, run, Config, StepOut, next, step}

-- A change, with the number of steps taken up to and with it: a node and its list number; a node,
-- its parents before and after, and the child before which it goes; a node and its parent. The
-- number 0 stands for no parent and for no such child.
pub data Change : Type 0 where
  created : ℕ → ℕ → ℕ → Change
  moved : ℕ → ℕ → ℕ → ℕ → ℕ → Change
  removed : ℕ → ℕ → ℕ → Change

-- the number of a node, and 0 where the value is none
abbrev pub number_in : Value → ℕ
number_in (node_number n) = n
number_in value = 0

-- the number of the parent of the node that a value names, and 0 where it has none
abbrev pub parent_in : Trees → Value → ℕ
parent_in grove value = number_in (first_number (nodes_where (parental (number_in value)) grove))

-- the change that a step makes, where it doesn't fault
abbrev pub change_of : ℕ → Pick → Config → Option Change
change_of taken pick config = of_first config.pending
  where
    number_of : Term → ℕ
    number_of e = number_in (value_of config.store e)

    of_first : List Piece → Option Change
    of_first (run (create_node x e) ∷ rest) = Some (created taken pick.node pick.list)
    of_first (run (append_child e f) ∷ rest) = Some (moved taken (number_of f)
        (parent_in config.grove (value_of config.store f)) (number_of e) 0)
    of_first (run (remove_child e f) ∷ rest) = Some (removed taken (number_of f) (number_of e))
    of_first (run (insert_before e f g) ∷ rest) = Some (moved taken (number_of f)
        (parent_in config.grove (value_of config.store f)) (number_of e) (number_of g))
    of_first pending = None

-- the change in front of the later ones
abbrev pub listed_first : Option Change → List Change → List Change
listed_first None later = later
listed_first (Some change) later = change ∷ later

-- the changes from a step on: none where it isn't taken
abbrev pub changes_from : Option Change → (Config → List Change) → StepOut → List Change
changes_from change later (next after) = listed_first change (later after)
changes_from change later otherwise = []

-- the changes of the next so many steps, with next picks, when so many were taken before
abbrev pub changes : Procedures → ℕ → ℕ → Config → List Change
changes procedures zero taken config = []
changes procedures (suc steps) taken config =
    changes_from (change_of (suc taken) (next_pick config.grove) config)
    (changes procedures steps (suc taken)) (step procedures config (next_pick config.grove))
