use Rattle.model_machine.proofs.Starts.{start-fits, entering-is}
use Rattle.model_machine.proofs.a_run_begins_with_what_fits.Goals as goal

pub returns-clause-start : goal.returns-clause-start
returns-clause-start c = start-fits

pub returns-clause-call : goal.returns-clause-call
returns-clause-call c = entering-is
