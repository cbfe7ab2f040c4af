use Rattle.model_terms.proofs.Computing.{evaluates-computes, condition-tests}
use Rattle.model_terms.proofs.what_is_tested_is_sorted.Goals as goal

pub returns-clause-term : goal.returns-clause-term
returns-clause-term c = evaluates-computes

pub returns-clause-condition : goal.returns-clause-condition
returns-clause-condition c = condition-tests
