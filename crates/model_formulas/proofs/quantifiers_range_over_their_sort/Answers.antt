use Rattle.model_formulas.proofs.Quantified.{exists-means, forall-means, met-alike}
use Rattle.model_formulas.proofs.quantifiers_range_over_their_sort.Goals as goal

pub returns-clause-some : goal.returns-clause-some
returns-clause-some c = λ x p e s r. met-alike s r (exists-means x p e)

pub returns-clause-each : goal.returns-clause-each
returns-clause-each c = λ x p e s r. met-alike s r (forall-means x p e)
