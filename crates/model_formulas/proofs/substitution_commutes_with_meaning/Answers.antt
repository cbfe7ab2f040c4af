use Rattle.model_formulas.proofs.Substitutes.{meets-with, with-meets-back}
use Rattle.model_formulas.proofs.substitution_commutes_with_meaning.Goals as goal

pub returns : goal.returns
returns c = λ p f e s r. (meets-with p f e s r, with-meets-back p f e s r)
