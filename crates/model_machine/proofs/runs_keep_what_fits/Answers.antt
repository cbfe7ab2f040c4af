use Rattle.model_machine.proofs.Fine.{step-fits, ends-fine}
use Rattle.model_machine.proofs.runs_keep_what_fits.Goals as goal

pub returns-clause-step : goal.returns-clause-step
returns-clause-step c = step-fits

pub returns-clause-run : goal.returns-clause-run
returns-clause-run c = ends-fine
