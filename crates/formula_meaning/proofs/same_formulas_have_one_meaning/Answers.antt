use Rattle.model_formulas.specs.Satisfaction.{Meets}
use Rattle.model_formulas.proofs.Quantified.{met-alike}
use Rattle.formula_meaning.proofs.same_formulas_have_one_meaning.Goals as goal

pub returns : goal.returns
returns c = λ e s r same. met-alike s r (λ i. Meets (same i) e)
