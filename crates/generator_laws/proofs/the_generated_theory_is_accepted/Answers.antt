use Rattle.generator_laws.proofs.Accepted.{generated-accepted}
use Rattle.generator_laws.proofs.the_generated_theory_is_accepted.Goals as goal

pub returns : goal.returns
returns c = generated-accepted
