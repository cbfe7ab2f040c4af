use Rattle.model_formulas.proofs.Environments.{plain_env, plain_env-proper}
use Rattle.model_formulas.proofs.a_proper_environment_exists.Goals as goal

pub returns : goal.returns
returns c = (plain_env, plain_env-proper)
