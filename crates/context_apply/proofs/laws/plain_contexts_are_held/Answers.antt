use Rattle.context_apply.proofs.Had.{had}
use Rattle.context_apply.proofs.laws.plain_contexts_are_held.Goals as goal

pub returns : goal.returns
returns c = had
