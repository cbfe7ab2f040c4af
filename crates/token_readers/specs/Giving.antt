-- Needn't be believed: the program's promise doesn't speak of it. What a function of the program
-- gives, against a reader of lists.
use Rattle.std.specs.Prelude.{◌≡◌, Result, Ok, Err}
use Rattle.token_readers.specs.declared.fault.ReadFault.{ReadFault}
use Rattle.token_readers.specs.declared.fault.ReadFault.TheVariants as faults
use Rattle.token_readers.specs.Reading.{Stop, At}

-- a fault of the text is one of the reading, with so many lexemes left; want of memory says nothing
abbrev pub Fails : {Y : Type 0} → ReadFault → Result Y Stop → Type 0
Fails faults.Memory read = Unit {0}
Fails (faults.Text k) read = read ≡ Err (At k)

-- what a function returned, seen by the view, is what the reading gives, unless memory ran out
abbrev pub Gives : {X Y : Type 0} → (X → Y) → Result X ReadFault → Result Y Stop → Type 0
Gives view (Ok x) read = read ≡ Ok (view x)
Gives view (Err e) read = Fails e read
