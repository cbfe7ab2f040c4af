use Rattle.filled_theory_laws.proofs.FilledTexts.{filled-writable}
use Rattle.filled_theory_laws.proofs.filled_theories_can_be_written.Goals as goal

pub returns : goal.returns
returns c = filled-writable
