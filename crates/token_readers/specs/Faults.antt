-- Needn't be believed: the program's promise doesn't speak of it. What is said of a whole list of
-- tokens that gave nothing.
use Rattle.std.specs.Prelude.{◌≡◌, ℕ, ◌+◌, ◌-◌, ◌≤◌, Result, Ok, Err}
use Rattle.token_readers.specs.declared.fault.ReadFault.{ReadFault}
use Rattle.token_readers.specs.declared.fault.ReadFault.TheVariants as reading
use Rattle.token_readers.specs.declared.fault.TextFault.{TextFault}
use Rattle.token_readers.specs.declared.fault.TextFault.TheVariants as faults

-- where the text is bad, this holds of the number of the fault token
abbrev pub AtToken : TextFault → (ℕ → Type 0) → Type 0
AtToken (faults.BadText token) P = P token
AtToken faults.OutOfMemory P = Unit {0}

-- the same of what was returned
abbrev pub IfBadText : {X : Type 0} → Result X TextFault → (ℕ → Type 0) → Type 0
IfBadText (Ok x) P = Unit {0}
IfBadText (Err fault) P = AtToken fault P

-- the reading left no more tokens than there were
abbrev pub LeavesWithin : ℕ → ReadFault → Type 0
LeavesWithin count (reading.Text left) = left ≤ count
LeavesWithin count reading.Memory = Unit {0}

-- the token, of so many, is the first of those that the reading left, counted from 1
abbrev pub FirstLeft : ℕ → ReadFault → ℕ → Type 0
FirstLeft count (reading.Text left) token = token ≡ count - left + 1
FirstLeft count reading.Memory token = ⊥
