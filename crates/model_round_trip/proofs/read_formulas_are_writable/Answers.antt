use Rattle.model_round_trip.specs.Literals.{LiteralIsUtf8}
use Rattle.model_round_trip.proofs.OneSpelling.{formula_written}
use Rattle.model_round_trip.proofs.Readable.{formula_readable}
use Rattle.model_round_trip.proofs.ReadTexts.{literals_read, as_read}
use Rattle.model_round_trip.proofs.Versions.{all_seen}
use Rattle.model_round_trip.proofs.read_formulas_are_writable.Goals as goal

pub returns-clause-writable : goal.returns-clause-writable
returns-clause-writable c = λ p lexemes l h. formula_readable l (all_seen lexemes h)

pub returns-clause-literals : goal.returns-clause-literals
returns-clause-literals c = λ p lexemes l h.
    as_read LiteralIsUtf8 (formula_written l) (literals_read lexemes (all_seen lexemes h))
