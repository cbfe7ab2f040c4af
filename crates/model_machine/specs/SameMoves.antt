-- Needn't be believed: moves and outcomes that are the same but for the order of the roots of their
-- groves. Only laws speak of them.
use Rattle.std.specs.Prelude.{◌≡◌}
use Rattle.model_shapes.specs.Sorts.{grove}
use Rattle.model_shapes.specs.Shapes.{SameAt}
use Rattle.model_machine.specs.Machine.{Move, becomes, faults, bad_pick, RunOutcome, running, ended, fault, picked_badly}

-- the same pieces, the same store and the same grove; or the same fault; or a bad pick
abbrev pub SameMove : Move → Move → Type 0
SameMove (becomes pieces store roots) (becomes pieces' store' roots') =
    (pieces ≡ pieces') × (store ≡ store') × SameAt grove roots roots'
SameMove (faults kind) (faults kind') = kind ≡ kind'
SameMove bad_pick bad_pick = Unit
SameMove move move' = ⊥

-- the same store and the same grove at the end; or the same fault
abbrev pub SameOutcome : RunOutcome → RunOutcome → Type 0
SameOutcome running running = Unit
SameOutcome (fault kind) (fault kind') = kind ≡ kind'
SameOutcome picked_badly picked_badly = Unit
SameOutcome (ended store roots) (ended store' roots') = (store ≡ store') × SameAt grove roots roots'
SameOutcome outcome outcome' = ⊥
