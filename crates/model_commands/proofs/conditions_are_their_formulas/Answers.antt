use Rattle.model_terms.proofs.Computing.{condition-tests}
use Rattle.model_commands.proofs.StoreLaws.{condition-both}
use Rattle.model_commands.proofs.conditions_are_their_formulas.Goals as goal

pub returns : goal.returns
returns c = λ k st e s r t p. condition-both st e p s r k (condition-tests k t)
