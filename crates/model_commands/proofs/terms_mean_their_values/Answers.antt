use Rattle.model_terms.proofs.Computing.{evaluates-computes}
use Rattle.model_commands.proofs.StoreLaws.{meaning-value}
use Rattle.model_commands.proofs.terms_mean_their_values.Goals as goal

pub returns : goal.returns
returns c = λ s t store e k. meaning-value s t store e (evaluates-computes s t k)
