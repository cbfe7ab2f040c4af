use Rattle.model_formulas.proofs.Renaming.{exists-renamed, forall-renamed}
use Rattle.model_formulas.proofs.bound_variables_may_be_renamed.Goals as goal

pub returns-clause-some : goal.returns-clause-some
returns-clause-some c = exists-renamed

pub returns-clause-each : goal.returns-clause-each
returns-clause-each c = forall-renamed
