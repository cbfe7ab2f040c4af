use Rattle.model_formulas.proofs.Pure.{pure-ignores}
use Rattle.model_formulas.proofs.Quantified.{moved}
use Rattle.model_formulas.proofs.pure_formulas_ignore_the_shape.Goals as goal

pub returns : goal.returns
returns c = λ p h e s t r w m. moved (pure-ignores p h e s t r w) m
