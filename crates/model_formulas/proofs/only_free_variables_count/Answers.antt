use Rattle.model_formulas.proofs.Substitutes.{meets-agrees}
use Rattle.model_formulas.proofs.only_free_variables_count.Goals as goal

pub returns : goal.returns
returns c = meets-agrees
