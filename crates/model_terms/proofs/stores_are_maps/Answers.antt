use Rattle.std.proofs.Common.{refl}
use Rattle.model_terms.proofs.StoreLaws.{set-same, set-other}
use Rattle.model_terms.proofs.stores_are_maps.Goals as goal

pub returns-clause-empty : goal.returns-clause-empty
returns-clause-empty c = λ x. refl

pub returns-clause-same : goal.returns-clause-same
returns-clause-same c = set-same

pub returns-clause-other : goal.returns-clause-other
returns-clause-other c = set-other
