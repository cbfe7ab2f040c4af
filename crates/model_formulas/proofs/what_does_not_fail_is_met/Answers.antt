use Rattle.model_formulas.proofs.Stable.{stable}
use Rattle.model_formulas.proofs.what_does_not_fail_is_met.Goals as goal

pub returns : goal.returns
returns c = stable
