-- Needn't be believed: the contracts of private functions alone speak of it. What a run goes on
-- with.
use Rattle.dom_meaning.specs.declared.effects.Effect.{Effect}
use Rattle.dom_meaning.specs.declared.effects.Effect.TheVariants as e

-- the piece doesn't fault, and the pick isn't bad
abbrev pub GoesOn : Effect → Type 0
GoesOn (e.Fault kind) = ⊥
GoesOn e.BadPick = ⊥
GoesOn effect = Unit

-- the document is as it was
abbrev pub IsQuiet : Effect → Type 0
IsQuiet (e.Created node list) = ⊥
IsQuiet (e.Moved node from to before) = ⊥
IsQuiet (e.Removed node from) = ⊥
IsQuiet effect = Unit
