-- Needn't be believed: commands whose parts have the right sorts and number, as a relation that
-- proofs take apart. A law says that what passes the test is so related.
use Rattle.std.specs.Prelude.{◌≡◌, List, [], ◌∷◌, Option, Some, None}
use Rattle.model_shapes.specs.Sorts.{node_sort, list_sort, int_sort, str_sort}
use Rattle.model_terms.specs.Terms.{Term}
use Rattle.model_terms.specs.Stores.{ProgVar, sort_of}
use Rattle.model_terms.specs.Computing.{Computes, Tests}
use Rattle.model_commands.specs.Commands.{Command, skip, block, assign, create_node, node_name, child_nodes, parent_node, list_item, append_child, remove_child, insert_before, if_else, while_do, local, call, Block, stop, ◌then◌, Among}
use Rattle.model_commands.specs.Theories.{Procedure, Procedures, procedure_named}

-- the arguments of a call have the sorts and the number of the parameters
abbrev pub Feed : List ProgVar → List Term → Type 0
Feed [] [] = Unit
Feed (x ∷ xs) (e ∷ es) = Computes (sort_of x) e × Feed xs es
Feed xs es = ⊥

-- the variables that take the results have the sorts and the number of the results
abbrev pub Receive : List ProgVar → List ProgVar → Type 0
Receive [] [] = Unit
Receive (r ∷ rs) (x ∷ xs) = (sort_of r ≡ sort_of x) × Receive rs xs
Receive rs xs = ⊥

-- the procedure is there, and the call fits it
abbrev pub CallFits : Option Procedure → List ProgVar → List Term → Type 0
CallFits None results arguments = ⊥
CallFits (Some f) results arguments = Feed f.params arguments × Receive f.results results

-- no variable stands twice
abbrev pub Distinct : List ProgVar → Type 0
Distinct [] = Unit
Distinct (x ∷ xs) = (Among xs x → ⊥) × Distinct xs

-- The parts of a command have the right sorts and number, and the results of a call don't repeat.
module _ (procedures : Procedures) where
  abbrev mutual
    pub Sorted : Command → Type 0
    Sorted skip = Unit
    Sorted (block b) = BlockSorted b
    Sorted (assign x e) = Computes (sort_of x) e
    Sorted (create_node x e) = (sort_of x ≡ node_sort) × Computes str_sort e
    Sorted (node_name x e) = (sort_of x ≡ str_sort) × Computes node_sort e
    Sorted (child_nodes x e) = (sort_of x ≡ list_sort) × Computes node_sort e
    Sorted (parent_node x e) = (sort_of x ≡ node_sort) × Computes node_sort e
    Sorted (list_item x e f) =
        (sort_of x ≡ node_sort) × Computes list_sort e × Computes int_sort f
    Sorted (append_child e f) = Computes node_sort e × Computes node_sort f
    Sorted (remove_child e f) = Computes node_sort e × Computes node_sort f
    Sorted (insert_before e f g) =
        Computes node_sort e × Computes node_sort f × Computes node_sort g
    Sorted (if_else c a b) = Tests c × BlockSorted a × BlockSorted b
    Sorted (while_do c b) = Tests c × BlockSorted b
    Sorted (local x b) = BlockSorted b
    Sorted (call results name arguments) =
        CallFits (procedure_named name procedures) results arguments × Distinct results

    pub BlockSorted : Block → Type 0
    BlockSorted stop = Unit
    BlockSorted (c then b) = Sorted c × BlockSorted b
