-- Needn't be believed: what comes of a piece, as a move of the machine of the definitions. The
-- contracts of the calls that run procedures don't speak of it.
use Rattle.std.specs.Prelude.{◌≡◌, ℕ, Bool, true, false, List, [], ◌∷◌, map, Option, Some, None}
use Rattle.model_shapes.specs.Trees.{Trees}
use Rattle.model_shapes.specs.Values.{Name, Value, FitsValue, null, str, list_number}
use Rattle.model_terms.specs.Terms as terms
use Rattle.model_terms.specs.Stores.{Store, set, value_of, default, sort_of}
use Rattle.model_terms.specs.TermLimits.{or_else}
use Rattle.model_groves.specs.Groves.{nodes_where, parental, first_number}
use Rattle.model_groves.specs.Picks.{Pick}
use Rattle.model_commands.specs.Commands.{Command, block, create_node, append_child, remove_child, insert_before, call}
use Rattle.model_commands.specs.Theories as model
use Rattle.model_limits.specs.Limits.{LimitKind, standard_limits}
use Rattle.model_machine.specs.Machine.{Piece, run, restore, return, pieces_of, Move, becomes, faults, bad_pick, configuration}
use Rattle.model_machine.specs.Changes.{Change, created, moved, removed, number_in, parent_in, change_of}
use Rattle.model_machine.specs.Outcomes.{returns_in, step_limit}
use Rattle.dom_terms.specs.Sorts.{value_sort_of}
use Rattle.dom_terms.specs.declared.terms.Term.{Term}
use Rattle.dom_terms.specs.Terms.{prog_var_of, term_of}
use Rattle.dom_terms.specs.Values.{value_seen}
use Rattle.dom_terms.specs.Stores.{store_of}
use Rattle.grove_data.specs.Finding.{number_or_null}
use Rattle.theory_syntax.specs.Commands.{command_of, block_of}
use Rattle.theory_syntax.specs.declared.theories.Procedure.{Procedure}
use Rattle.theory_syntax.specs.Theories.{procedure_of}
use Rattle.dom_meaning.specs.declared.effects.Effect.{Effect}
use Rattle.dom_meaning.specs.declared.effects.Effect.TheVariants as e
use Rattle.dom_meaning.specs.declared.reads.Read.{Read}
use Rattle.dom_meaning.specs.declared.reads.Read.TheVariants as r
use Rattle.dom_meaning.specs.Faults.{fault_kind_of}

-- the pieces that it puts in the place of this one, where this was the store
abbrev pub pieces_put : Effect → Piece → Store → List Piece
pieces_put (e.Commands b) piece store = pieces_of (block_of b.now)
pieces_put (e.Block b) piece store = run (block (block_of b.now)) ∷ []
pieces_put (e.Again b) piece store = run (block (block_of b.now)) ∷ piece ∷ []
pieces_put (e.Local x old b) piece store =
    run (block (block_of b.now)) ∷ restore (prog_var_of x.now) (value_seen old) ∷ []
pieces_put (e.Call f xs callee) piece store = run (command_of f.now.body)
    ∷ return store (map prog_var_of f.now.results) (map prog_var_of xs.now) ∷ []
pieces_put effect piece store = []

-- the store after it
abbrev pub store_put : Effect → Store → Store
store_put (e.Set x value) store = set (prog_var_of x.now) (value_seen value) store
store_put (e.Local x old b) store =
    set (prog_var_of x.now) (default (value_sort_of x.now.sort)) store
store_put (e.Call f xs callee) store = store_of callee
store_put (e.Back caller) store = store_of caller
store_put effect store = store

-- the move that it is, to this grove
abbrev pub move_of : Effect → Piece → Store → Trees → Move
move_of (e.Fault kind) piece store grove = faults (fault_kind_of kind)
move_of e.BadPick piece store grove = bad_pick
move_of effect piece store grove =
    becomes (pieces_put effect piece store) (store_put effect store) grove

-- the effect is the move, to trees of that kind
abbrev pub Comes : (Trees → Type 0) → Move → Piece → Store → Effect → Type 0
Comes leaves move piece store effect =
    (grove : Trees) × (move_of effect piece store grove ≡ move) × leaves grove

-- an effect that only says what is to come has changed nothing yet
abbrev pub if_quiet : Effect → Type 0 → Type 0
if_quiet (e.Created node list) same = Unit
if_quiet (e.Moved node from to before) same = Unit
if_quiet (e.Removed node from) same = Unit
if_quiet effect same = same

-- the value that a variable is to be set to is of the variable's sort
abbrev pub FitsStore : Effect → Type 0
FitsStore (e.Set x value) = FitsValue (sort_of (prog_var_of x.now)) (value_seen value)
FitsStore effect = Unit

-- the change that it tells of the step with this number
abbrev pub change_in : ℕ → Effect → Option Change
change_in taken (e.Created node list) = Some (created taken node list)
change_in taken (e.Moved node from to before) = Some (moved taken node
    (number_in (number_or_null from)) to (number_in (number_or_null before)))
change_in taken (e.Removed node from) = Some (removed taken node from)
change_in taken effect = None

-- it tells that change, unless it says that the piece faults or that a pick is bad
abbrev pub Tells : (ℕ → Option Change) → Effect → Type 0
Tells change (e.Fault kind) = Unit
Tells change e.BadPick = Unit
Tells change effect = (taken : ℕ) → change taken ≡ change_in taken effect

-- it tells that there is none
abbrev pub TellsNone : Effect → Type 0
TellsNone = Tells (λ taken. None)

-- it tells the change of the piece
abbrev pub TellsChange : Pick → Piece → Store → Trees → Effect → Type 0
TellsChange pick piece store grove =
    Tells (λ taken. change_of taken pick (configuration (piece ∷ []) store grove))

-- a node is made with those numbers
abbrev pub making : Pick → ℕ → Option Change
making pick taken = Some (created taken pick.node pick.list)

-- the node of the second value is moved to the node of the first, before the one of the third
abbrev pub moving : Value → Value → Value → Trees → ℕ → Option Change
moving parent child next grove taken = Some (moved taken (number_in child) (parent_in grove child)
    (number_in parent) (number_in next))

-- the node of the second value is taken from that of the first
abbrev pub removing_from : Value → Value → ℕ → Option Change
removing_from parent child taken = Some (removed taken (number_in child) (number_in parent))

-- the value of the term before whose node a tree is moved: null where there is none
abbrev pub next_value : Store → Option Term → Value
next_value store None = null
next_value store (Some term) = value_of store (term_of term)

-- the terms
abbrev pub next_terms : Option Term → List terms.Term
next_terms None = []
next_terms (Some term) = term_of term ∷ []

-- the command makes or moves a node
abbrev pub changes : Command → Bool
changes (create_node x e) = true
changes (append_child e f) = true
changes (remove_child e f) = true
changes (insert_before e f g) = true
changes command = false

-- the limit of the numbers of a new node, where the command makes one
abbrev pub if_making : Command → Option LimitKind → Option LimitKind
if_making (create_node x e) numbers = numbers
if_making command numbers = None

-- so many returns are pending after a call; after another piece they needn't be counted
abbrev pub Counted : Piece → List Piece → ℕ → Type 0
Counted (run (call xs name es)) rest returns = returns_in rest ≡ returns
Counted piece rest returns = Unit

-- the limit that a command passes, with the limit of the numbers of a new node
abbrev pub own_limit : Command → List Piece → Store → Trees → Option LimitKind → Option LimitKind
own_limit command rest store grove numbers =
    or_else (step_limit standard_limits (run command) rest store grove) (if_making command numbers)

-- what is read off a node: its name, the number of its list, or its parent in the grove
abbrev pub value_read : Read → Trees → Name → ℕ → Trees → ℕ → Value
value_read r.Name grove name number kids list = str name
value_read r.List grove name number kids list = list_number list
value_read r.Parent grove name number kids list = first_number (nodes_where (parental number) grove)

-- the procedure without the names of bound variables
abbrev pub nameless_of : Procedure → model.Procedure
nameless_of procedure = model.nameless_procedure (procedure_of procedure)
