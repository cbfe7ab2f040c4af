use Rattle.model_round_trip.proofs.Laws.{theory_sorted_once}
use Rattle.model_round_trip.proofs.Readable.{theory_readable}
use Rattle.model_round_trip.proofs.ReadTexts.{theory_read}
use Rattle.model_round_trip.proofs.read_theories_are_writable.Goals as goal

pub returns-clause-writable : goal.returns-clause-writable
returns-clause-writable c = λ t lexemes l h. theory_readable l h

pub returns-clause-literals : goal.returns-clause-literals
returns-clause-literals c = λ t lexemes l h. theory_read l h

pub returns-clause-sorted : goal.returns-clause-sorted
returns-clause-sorted c = theory_sorted_once
