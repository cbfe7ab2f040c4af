-- Needn't be believed: the program's promise doesn't speak of it. When the evaluation of a term is
-- refused: at the first subterm that passes a limit, from left to right and inner ones first; the
-- limits are the language's own. Want of memory is free.
use Rattle.std.specs.Prelude.{◌≡◌, Result, Ok, Err, Option, Some, None}
use Rattle.model_limits.specs.Limits.{LimitKind, number_limit, text_limit}
use Rattle.dom_terms.specs.declared.verdicts.EvalFault.{EvalFault}
use Rattle.dom_terms.specs.declared.verdicts.EvalFault.TheVariants as f

-- the fault is that of the limit that is passed
abbrev pub FaultReports : EvalFault → Option LimitKind → Type 0
FaultReports f.NumberRange limit = limit ≡ Some number_limit
FaultReports f.TextLimit limit = limit ≡ Some text_limit
FaultReports f.OutOfMemory limit = Unit

-- an answer reports a limit: a value where none is passed, and else the limit's fault
abbrev pub Reports : {A : Type 0} → Result A EvalFault → Option LimitKind → Type 0
Reports (Ok value) limit = limit ≡ None
Reports (Err fault) limit = FaultReports fault limit
