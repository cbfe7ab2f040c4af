-- Needn't be believed: the program's promise doesn't speak of it. What calls answer and leave, in
-- the words of the machine of the definitions, which follows PODS 2008: its moves and its readings.
use Rattle.std.specs.Prelude.{◌≡◌, Result, Ok, Err}
use Rattle.model_shapes.specs.Sorts.{grove}
use Rattle.model_shapes.specs.Shapes.{SameAt}
use Rattle.model_machine.specs.Machine.{Move, becomes, faults, bad_pick}
use Rattle.dom_meaning.specs.declared.faults.FaultKind.{FaultKind}
pub use Rattle.dom_meaning.specs.Documents.{Reads}
use Rattle.dom_meaning.specs.Faults.{fault_kind_of}
use Rattle.node_heap.specs.HeapView.{HeapView}

-- The call did the move: it left the grove of the move, up to the order of roots, with as much room
-- as before; or it answered the fault of the move, and the heap is as it was.
abbrev pub Did : {A : Type 0} → Move → Result A FaultKind → HeapView → HeapView → Type 0
Did (becomes pieces store after) (Ok answer) old new =
    SameAt grove new.grove after × (new.spare ≡ old.spare)
Did (faults kind) (Err fault) old new = (fault_kind_of fault ≡ kind) × (new ≡ old)
Did move answer old new = ⊥
