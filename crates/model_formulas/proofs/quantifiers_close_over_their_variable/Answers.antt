use Rattle.model_formulas.proofs.Nameless.{nameless-exists, nameless-forall}
use Rattle.model_formulas.proofs.quantifiers_close_over_their_variable.Goals as goal

pub returns-clause-some : goal.returns-clause-some
returns-clause-some c = nameless-exists

pub returns-clause-each : goal.returns-clause-each
returns-clause-each c = nameless-forall
