use Rattle.letter_bindings.proofs.StepVerdicts.{verdict-named}
use Rattle.letter_bindings.proofs.walks_give_the_verdict.Goals as goal

pub returns : goal.returns
returns c = verdict-named
