-- Needn't be believed: what is planned for the first piece, as a move of the machine of the
-- definitions. The contracts of the public calls don't speak of it.
use Rattle.std.specs.Prelude.{◌≡◌, List, [], ◌∷◌, ◌++◌, Result, Ok}
use Rattle.model_shapes.specs.Trees.{Trees}
use Rattle.model_shapes.specs.Values.{FitsValue}
use Rattle.model_terms.specs.Stores.{Store, set, sort_of}
use Rattle.model_machine.specs.Machine.{Piece, Move, becomes, faults, bad_pick}
use Rattle.dom_terms.specs.Terms.{prog_var_of}
use Rattle.dom_terms.specs.Values.{value_seen}
use Rattle.dom_terms.specs.Stores.{store_of}
use Rattle.dom_meaning.specs.declared.effects.Effect.{Effect}
use Rattle.dom_meaning.specs.declared.effects.Effect.TheVariants as e
use Rattle.dom_meaning.specs.declared.plans.Change.{Change}
use Rattle.dom_meaning.specs.declared.plans.Change.TheVariants as c
use Rattle.dom_meaning.specs.declared.plans.Plan.{Plan}
use Rattle.dom_meaning.specs.declared.plans.Plan.TheVariants as p
use Rattle.dom_meaning.specs.Configs.{pieces_in}
use Rattle.dom_meaning.specs.Faults.{fault_kind_of}

-- the pieces that a change puts in the place of this one
abbrev pub pieces_after : Change → Piece → List Piece
pieces_after (c.Pieces pieces) piece = pieces_in pieces
pieces_after (c.Before pieces) piece = pieces_in pieces ++ piece ∷ []
pieces_after (c.Set variable value) piece = []
pieces_after (c.Switch pieces store) piece = pieces_in pieces

-- the store after it
abbrev pub store_after : Change → Store → Store
store_after (c.Pieces pieces) store = store
store_after (c.Before pieces) store = store
store_after (c.Set variable value) store = set (prog_var_of variable) (value_seen value) store
store_after (c.Switch pieces other) store = store_of other

-- the value that it sets a variable to is of the variable's sort
abbrev pub FitsStores : Change → Type 0
FitsStores (c.Set variable value) = FitsValue (sort_of (prog_var_of variable)) (value_seen value)
FitsStores change = Unit

-- the same of a plan
abbrev pub FitsPlan : Plan → Type 0
FitsPlan (p.Becomes change) = FitsStores change
FitsPlan plan = Unit

-- the move of the piece, to this grove
abbrev pub move_planned : Plan → Piece → Store → Trees → Move
move_planned p.Taken piece store grove = becomes [] store grove
move_planned (p.Becomes change) piece store grove =
    becomes (pieces_after change piece) (store_after change store) grove
move_planned (p.Faults kind) piece store grove = faults (fault_kind_of kind)
move_planned p.BadPick piece store grove = bad_pick

-- what has changed the document is taken
abbrev pub Takes : {E : Type 0} → Effect → Result Plan E → Type 0
Takes (e.Created node list) result = result ≡ Ok p.Taken
Takes (e.Moved node from to before) result = result ≡ Ok p.Taken
Takes (e.Removed node from) result = result ≡ Ok p.Taken
Takes effect result = Unit
