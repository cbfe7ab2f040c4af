-- Needn't be believed: the tests that the terms and the condition of a command pass, one by one,
-- and the variable that a new node is given to. A lemma says that those of each command that a run
-- may take do.
use Rattle.std.specs.Prelude.{◌≡◌, true, List, [], ◌∷◌, Option, Some, None}
use Rattle.model_shapes.specs.Sorts.{node_sort, list_sort, int_sort, str_sort}
use Rattle.model_terms.specs.Terms.{Term}
use Rattle.model_terms.specs.TermSorts.{evaluates}
use Rattle.model_terms.specs.Stores.{ProgVar, sort_of}
use Rattle.model_terms.specs.Conditions.{condition_sorted}
use Rattle.model_commands.specs.Commands.{Command, skip, block, assign, create_node, node_name, child_nodes, parent_node, list_item, append_child, remove_child, insert_before, if_else, while_do, local, call}
use Rattle.model_commands.specs.Theories.{Procedure, Procedures, procedure_named}

-- each argument evaluates to its parameter's sort
abbrev pub Fed : List ProgVar → List Term → Type 0
Fed [] [] = Unit
Fed (x ∷ xs) (e ∷ es) = (evaluates (sort_of x) e ≡ true) × Fed xs es
Fed xs es = ⊥

-- the procedure is there, and the arguments are those of its parameters
abbrev pub Enters : Option Procedure → List Term → Type 0
Enters None arguments = ⊥
Enters (Some f) arguments = Fed f.params arguments

-- the terms and the condition of the command
abbrev pub TermsFit : Procedures → Command → Type 0
TermsFit procedures skip = Unit
TermsFit procedures (block b) = Unit
TermsFit procedures (assign x e) = evaluates (sort_of x) e ≡ true
TermsFit procedures (create_node x e) = (sort_of x ≡ node_sort) × (evaluates str_sort e ≡ true)
TermsFit procedures (node_name x e) = evaluates node_sort e ≡ true
TermsFit procedures (child_nodes x e) = evaluates node_sort e ≡ true
TermsFit procedures (parent_node x e) = evaluates node_sort e ≡ true
TermsFit procedures (list_item x e f) =
    (evaluates list_sort e ≡ true) × (evaluates int_sort f ≡ true)
TermsFit procedures (append_child e f) =
    (evaluates node_sort e ≡ true) × (evaluates node_sort f ≡ true)
TermsFit procedures (remove_child e f) =
    (evaluates node_sort e ≡ true) × (evaluates node_sort f ≡ true)
TermsFit procedures (insert_before e f g) =
    (evaluates node_sort e ≡ true) × (evaluates node_sort f ≡ true)
    × (evaluates node_sort g ≡ true)
TermsFit procedures (if_else c a b) = condition_sorted c ≡ true
TermsFit procedures (while_do c b) = condition_sorted c ≡ true
TermsFit procedures (local x b) = Unit
TermsFit procedures (call results name arguments) =
    Enters (procedure_named name procedures) arguments
