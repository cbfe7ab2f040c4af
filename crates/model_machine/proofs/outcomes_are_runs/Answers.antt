use Rattle.model_machine.proofs.Picks.{outcome-behind}
use Rattle.model_machine.proofs.outcomes_are_runs.Goals as goal

pub returns : goal.returns
returns c = outcome-behind
