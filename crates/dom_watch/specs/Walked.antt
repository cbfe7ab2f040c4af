-- Needn't be believed: the contracts of private functions alone speak of it. Walks over the parts of
-- a formula, which are counted as far as 64 bits allow.
use Rattle.std.specs.Prelude.{◌≡◌, ◌<◌, ◌+◌, ◌-◌, ◌^◌, ℕ, Bool, not, List, None, Result, Ok, Err, MatchOption, length, min}
use Rattle.std.specs.List.{position_from}
use Rattle.dom_watch.specs.declared.faults.WatchFault.{WatchFault}
use Rattle.dom_watch.specs.declared.faults.WatchFault.TheVariants as w
use Rattle.dom_watch.specs.declared.flags.Unwatchable.{Unwatchable}

-- the greatest number of 64 bits
abbrev pub most : ℕ
most = 2 ^ 64 - 1

-- The flags begin at this place. The answer is the place after them where all are set, or else the
-- place of the first that isn't; the greatest number stands for each place past it.
abbrev pub Walks : ℕ → List Bool → Result ℕ Unwatchable → Type 0
Walks place flags (Ok next) =
    (position_from not 0 flags ≡ None) × (next ≡ min (place + length flags) most)
Walks place flags (Err fault) =
    MatchOption (position_from not 0 flags) ⊥ (λ k. fault.part ≡ min (place + k) most)

-- the fault that tells of this part, unless its number has more than 32 bits
abbrev pub TellsPart : ℕ → WatchFault → Type 0
TellsPart part (w.NotWatchable told) = (told ≡ part) × (told < 2 ^ 32)
TellsPart part (w.Limit kind) = ⊥
TellsPart part w.OutOfMemory = Unit {0}
