-- Needn't be believed: the program's promise doesn't speak of it. What documents answer and leave,
-- in the words of the machine of the definitions, which follows PODS 2008: its moves and its
-- readings.
use Rattle.std.specs.Prelude.{◌≡◌, ℕ, ◌+◌, nat_le, [], Result, Ok, Err, Option}
use Rattle.model_shapes.specs.Values.{Name, Value}
use Rattle.model_shapes.specs.Trees.{Trees, node}
use Rattle.model_terms.specs.Stores.{Store}
use Rattle.model_terms.specs.TermLimits.{or_else, unless}
use Rattle.model_groves.specs.Picks.{Pick}
use Rattle.model_groves.specs.Sizes.{size}
use Rattle.model_limits.specs.Limits.{LimitKind, nodes_limit, standard_limits}
use Rattle.model_machine.specs.Machine as machine
use Rattle.model_machine.specs.Machine.{Move, becomes, faults, bad_pick}
use Rattle.dom_meaning.specs.declared.faults.FaultKind.{FaultKind}
use Rattle.dom_meaning.specs.declared.faults.MoveFault.{MoveFault}
use Rattle.dom_meaning.specs.declared.faults.MoveFault.TheVariants as m
use Rattle.dom_meaning.specs.declared.faults.StepFault.{StepFault}
use Rattle.dom_meaning.specs.declared.faults.StepFault.TheVariants as s
use Rattle.dom_meaning.specs.declared.faults.Creation.{Creation}
use Rattle.dom_meaning.specs.declared.faults.Creation.TheVariants as c
use Rattle.dom_meaning.specs.Configs.{pick_of}
use Rattle.dom_meaning.specs.Faults.{fault_kind_of}

-- The answer, as a value, is what is read off the first node that was found. Where none was found
-- the answer is the fault.
abbrev pub Reads : {A : Type 0} → (A → Value) → Trees → machine.FaultKind
    → (Name → ℕ → Trees → ℕ → Value) → Result A FaultKind → Type 0
Reads seen (node name number kids list rest) kind read (Ok answer) =
    seen answer ≡ read name number kids list
Reads seen (node name number kids list rest) kind read (Err fault) = ⊥
Reads seen found kind read (Ok answer) = ⊥
Reads seen found kind read (Err fault) = fault_kind_of fault ≡ kind

-- the move puts nothing in the place of its piece and leaves this store and trees of that kind
abbrev pub Leads : (Trees → Type 0) → Move → Store → Type 0
Leads leaves move store = (trees : Trees) × (move ≡ becomes [] store trees) × leaves trees

-- The call did the move, and the document stands for the grove that the move leaves; or it answered
-- the fault of the move, and the document is as it was; or memory was refused.
abbrev pub Moves : {A D : Type 0} → (D → Trees → Type 0) → (D → D → Type 0) → Move → Store
    → Result A MoveFault → D → D → Type 0
Moves leaves keeps move store (Ok answer) old new = Leads (leaves new) move store
Moves leaves keeps move store (Err (m.Fault kind)) old new =
    (move ≡ faults (fault_kind_of kind)) × (new ≡ old)
Moves leaves keeps move store (Err m.OutOfMemory) old new = keeps old new

-- a node with the numbers of the pick was made, and the store is this one after it; or the pick is
-- bad
abbrev pub Makes : (Trees → Type 0) → Move → Pick → Store → Result Creation StepFault → Type 0
Makes leaves move pick store (Ok (c.Made number list)) =
    (pick_of (number, list) ≡ pick) × Leads leaves move store
Makes leaves move pick store (Ok c.BadPick) = move ≡ bad_pick
Makes leaves move pick store (Err fault) = Unit

-- the limit that a new node passes, with the limit of its numbers
abbrev pub making_limit : Trees → Option LimitKind → Option LimitKind
making_limit grove numbers =
    or_else (unless (nat_le (1 + size grove) standard_limits.nodes) nodes_limit) numbers

-- after an answer that changes nothing, store and document are as they were; where memory was
-- refused the document is so but for room
abbrev pub Kept : {A D : Type 0} → (A → Type 0 → Type 0) → (D → D → Type 0)
    → Result A StepFault → Type 0 → D → D → Type 0
Kept quiet keeps (Ok answer) same old new = quiet answer (same × (new ≡ old))
Kept quiet keeps (Err (s.Limit kind)) same old new = same × (new ≡ old)
Kept quiet keeps (Err s.OutOfMemory) same old new = same × keeps old new

-- a bad pick changes nothing
abbrev pub if_not_made : Creation → Type 0 → Type 0
if_not_made (c.Made number list) same = Unit
if_not_made c.BadPick same = same
