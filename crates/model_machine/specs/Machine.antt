-- The machine: what one step does with each pending piece, and the runs over lists of picks.
-- The commands are those of PODS 2008 and DOM Level 1 Core.
use Rattle.std.specs.Prelude.{ℕ, Bool, true, false, List, [], ◌∷◌, ◌++◌, cond, Option, Some, None}
use Rattle.std.proofs.Math.Decide.{ℕ_discrete}
use Rattle.model_shapes.specs.Values.{Name, Value, null, node_number, list_number, str}
use Rattle.model_shapes.specs.Trees.{Trees, none, node, hole, beside, node_uses}
use Rattle.model_terms.specs.Terms.{Term}
use Rattle.model_terms.specs.Stores.{ProgVar, Store, unset, value_in, set, value_of, default, sort_of, text_in}
use Rattle.model_terms.specs.Conditions.{truth_of}
use Rattle.model_commands.specs.Commands.{Command, skip, block, assign, create_node, node_name, child_nodes, parent_node, list_item, append_child, remove_child, insert_before, if_else, while_do, local, call, Block, stop, ◌then◌}
use Rattle.model_commands.specs.Theories.{ProcedureOf, Procedure, Procedures, procedure_named}
use Rattle.model_groves.specs.Groves.{is_yes, has_root, parental, nodes_where, node_at, list_at, first_number, item_of, without, adding, adding_before, positive}
use Rattle.model_groves.specs.Picks.{Pick, is_free}

-- why a command faults: no such node, no such list, a node below itself, no child of that node, a
-- node before itself
pub data FaultKind : Type 0 where
  no_node no_list cycle not_child self_ref : FaultKind

-- what is pending: a command; a variable to be given its old value; the caller's store to be given
-- back, with the callee's results in the variables that take them
pub data Piece : Type 0 where
  run : Command → Piece
  restore : ProgVar → Value → Piece
  return : Store → List ProgVar → List ProgVar → Piece

-- what one step makes of the first piece: the pieces that stand in its place, with the new store
-- and grove; or a fault; or a pick that may not be used
pub data Move : Type 0 where
  becomes : List Piece → Store → Trees → Move
  faults : FaultKind → Move
  bad_pick : Move

-- the commands of a block, as pieces
abbrev pub pieces_of : Block → List Piece
pieces_of stop = []
pieces_of (c then b) = run c ∷ pieces_of b

-- sets the variable to what is read off the node that was found
abbrev pub reading : Trees → FaultKind → (Name → ℕ → Trees → ℕ → Value) → ProgVar → Store
    → Trees → Move
reading (node name number kids list rest) fault read x store grove =
    becomes [] (set x (read name number kids list) store) grove
reading found fault read x store grove = faults fault

-- moves the second tree, wherever it is, to the end of the children of the first
abbrev pub appending : Trees → Trees → Store → Trees → Move
appending (node name n kids list rest) (node name' m kids' list' rest') store grove =
    cond (positive (node_uses n (node name' m kids' list' none))) (faults cycle)
    (becomes [] store (adding n (node name' m kids' list' none) (without m grove)))
appending a b store grove = faults no_node

-- moves the second tree, wherever it is, just before the third, a child of the first
abbrev pub inserting : Trees → Trees → Trees → Store → Trees → Move
inserting (node name n kids list rest) (node name' m kids' list' rest')
    (node name'' q kids'' list'' rest'') store grove =
    cond (is_yes (ℕ_discrete m q)) (faults self_ref)
    (cond (positive (node_uses n (node name' m kids' list' none))) (faults cycle)
    (cond (has_root q kids)
    (becomes [] store (adding_before q (node name' m kids' list' none) (without m grove)))
    (faults not_child)))
inserting a b c store grove = faults no_node

-- moves it before the child that the value names, and to the end where the value is null
abbrev pub inserting_at : Value → Trees → Trees → Store → Trees → Move
inserting_at null a b store grove = appending a b store grove
inserting_at v a b store grove = inserting a b (node_at v grove) store grove

-- moves the second tree, a child of the first, to the roots
abbrev pub removing : Trees → Trees → Store → Trees → Move
removing (node name n kids list rest) (node name' m kids' list' rest') store grove =
    cond (has_root m kids)
    (becomes [] store (beside (without m grove) (node name' m kids' list' none)))
    (faults not_child)
removing a b store grove = faults no_node

-- adds a root without children
abbrev pub creating : Pick → ProgVar → Name → Store → Trees → Move
creating pick x name store grove =
    cond (is_free pick grove)
    (becomes [] (set x (node_number pick.node) store)
    (beside grove (node name pick.node none pick.list none)))
    bad_pick

-- the store of a callee: its parameters with the values of the arguments
abbrev pub entering : List ProgVar → List Term → Store → Store
entering (x ∷ xs) (e ∷ es) store = set x (value_of store e) (entering xs es store)
entering xs es store = unset

-- the caller's store, with the callee's results in the variables that take them
abbrev pub returning : List ProgVar → List ProgVar → Store → Store → Store
returning (r ∷ rs) (x ∷ xs) callee store = set x (value_in callee r) (returning rs xs callee store)
returning rs xs callee store = store

-- the body with a return behind it; a procedure that isn't there does nothing
abbrev pub calling : Option Procedure → List ProgVar → List Term → Store → Trees → Move
calling (Some f) xs es store grove =
    becomes (run f.body ∷ return store f.results xs ∷ []) (entering f.params es store) grove
calling None xs es store grove = becomes [] store grove

-- THE TABLE: one case for each piece
abbrev pub move : Procedures → Pick → Piece → Store → Trees → Move
move procedures pick (run skip) store grove = becomes [] store grove
move procedures pick (run (block b)) store grove = becomes (pieces_of b) store grove
move procedures pick (run (assign x e)) store grove =
    becomes [] (set x (value_of store e) store) grove
move procedures pick (run (if_else c a b)) store grove =
    becomes (run (block (cond (truth_of store c) a b)) ∷ []) store grove
move procedures pick (run (while_do c b)) store grove =
    becomes (cond (truth_of store c) (run (block b) ∷ run (while_do c b) ∷ []) []) store grove
move procedures pick (run (local x b)) store grove =
    becomes (run (block b) ∷ restore x (value_in store x) ∷ [])
    (set x (default (sort_of x)) store) grove
move procedures pick (restore x v) store grove = becomes [] (set x v store) grove
move procedures pick (run (call xs name es)) store grove =
    calling (procedure_named name procedures) xs es store grove
move procedures pick (return caller rs xs) store grove =
    becomes [] (returning rs xs store caller) grove
move procedures pick (run (create_node x e)) store grove =
    creating pick x (text_in (value_of store e)) store grove
move procedures pick (run (node_name x e)) store grove =
    reading (node_at (value_of store e) grove) no_node (λ s i k l. str s) x store grove
move procedures pick (run (child_nodes x e)) store grove =
    reading (node_at (value_of store e) grove) no_node (λ s i k l. list_number l) x store grove
move procedures pick (run (parent_node x e)) store grove =
    reading (node_at (value_of store e) grove) no_node
    (λ s i k l. first_number (nodes_where (parental i) grove)) x store grove
move procedures pick (run (list_item x e f)) store grove =
    reading (list_at (value_of store e) grove) no_list
    (λ s i k l. item_of (value_of store f) k) x store grove
move procedures pick (run (append_child e f)) store grove =
    appending (node_at (value_of store e) grove) (node_at (value_of store f) grove) store grove
move procedures pick (run (remove_child e f)) store grove =
    removing (node_at (value_of store e) grove) (node_at (value_of store f) grove) store grove
move procedures pick (run (insert_before e f g)) store grove =
    inserting_at (value_of store g) (node_at (value_of store e) grove)
    (node_at (value_of store f) grove) store grove

-- what is pending, the store and the grove
pub record Config : Type 0 where
  pub pending : List Piece
  pub store : Store
  pub grove : Trees

abbrev pub configuration : List Piece → Store → Trees → Config
configuration pending store grove =
    record { pending = pending; store = store; grove = grove }

-- A run begins with a command as the only piece: that of a procedure with its body, and with the
-- store in which the parameters have their values.
abbrev pub beginning : Command → Store → Trees → Config
beginning command store grove = configuration (run command ∷ []) store grove

abbrev pub holding_values : List ProgVar → List Value → Store
holding_values (x ∷ xs) (v ∷ vs) = set x v (holding_values xs vs)
holding_values xs vs = unset

-- the configuration with which a procedure begins
abbrev pub start : {F : Type 0} → ProcedureOf F → List Value → Trees → Config
start f values grove = beginning f.body (holding_values f.params values) grove

-- the answer of one step
pub data StepOut : Type 0 where
  next : Config → StepOut
  done : StepOut
  at_fault : FaultKind → StepOut
  at_bad_pick : StepOut

-- the rest of what is pending stays behind
abbrev pub stepped : List Piece → Move → StepOut
stepped rest (becomes pieces store grove) = next (configuration (pieces ++ rest) store grove)
stepped rest (faults fault) = at_fault fault
stepped rest bad_pick = at_bad_pick

-- one step: it takes the first piece; with nothing pending it is done
abbrev pub step : Procedures → Config → Pick → StepOut
step procedures config pick = on_pending config.pending
  where
    on_pending : List Piece → StepOut
    on_pending [] = done
    on_pending (piece ∷ rest) =
        stepped rest (move procedures pick piece config.store config.grove)

-- where a run stands after its picks
pub data RunOutcome : Type 0 where
  running : RunOutcome
  ended : Store → Trees → RunOutcome
  fault : FaultKind → RunOutcome
  picked_badly : RunOutcome

-- nothing is pending
abbrev pub is_done : Config → Bool
is_done config = is_empty config.pending
  where
    is_empty : List Piece → Bool
    is_empty [] = true
    is_empty (piece ∷ rest) = false

-- what a run comes to after a step: it goes on with the next configuration, or it is at its end, at
-- a fault or at a bad pick
abbrev pub after_step : (Config → RunOutcome) → Config → StepOut → RunOutcome
after_step more config (next after) = more after
after_step more config done = ended config.store config.grove
after_step more config (at_fault kind) = fault kind
after_step more config at_bad_pick = picked_badly

-- one step for each pick; what has ended stays so
abbrev pub runs : Procedures → List Pick → Config → RunOutcome
runs procedures [] config = cond (is_done config) (ended config.store config.grove) running
runs procedures (pick ∷ picks) config =
    after_step (runs procedures picks) config (step procedures config pick)
