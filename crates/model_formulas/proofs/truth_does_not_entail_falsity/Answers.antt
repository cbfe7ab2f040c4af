use Rattle.model_formulas.proofs.Environments.{consistent}
use Rattle.model_formulas.proofs.truth_does_not_entail_falsity.Goals as goal

pub returns : goal.returns
returns c = consistent
