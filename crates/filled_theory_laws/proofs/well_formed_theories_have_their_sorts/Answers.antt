use Rattle.filled_theory_laws.proofs.OwnTheories.{theory-again}
use Rattle.filled_theory_laws.proofs.well_formed_theories_have_their_sorts.Goals as goal

pub returns : goal.returns
returns c = theory-again
