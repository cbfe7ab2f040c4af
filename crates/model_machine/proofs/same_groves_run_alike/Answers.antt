use Rattle.model_machine.proofs.SameRuns.{same-move, same-config-runs}
use Rattle.model_machine.proofs.same_groves_run_alike.Goals as goal

pub returns-clause-step : goal.returns-clause-step
returns-clause-step c = same-move

pub returns-clause-run : goal.returns-clause-run
returns-clause-run c = same-config-runs
