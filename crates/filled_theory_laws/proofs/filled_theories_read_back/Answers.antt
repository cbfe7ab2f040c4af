use Rattle.model_filling.proofs.WellFormed.{filled-formed}
use Rattle.model_round_trip.proofs.Laws.{theory_reads}
use Rattle.filled_theory_laws.proofs.FilledTexts.{filled-writable}
use Rattle.filled_theory_laws.proofs.OwnTheories.{theory-again}
use Rattle.filled_theory_laws.proofs.filled_theories_read_back.Goals as goal

pub returns : goal.returns
returns c theory voices t is formed writable le utf8 =
    theory_reads t (filled-writable theory voices t is formed writable le)
    (theory-again t (filled-formed theory voices t is formed)) utf8
