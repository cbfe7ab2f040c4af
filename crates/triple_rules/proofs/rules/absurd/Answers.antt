use Rattle.triple_rules.proofs.OnWritten.{absurd-on}
use Rattle.triple_rules.proofs.rules.absurd.Goals as goal

pub returns : goal.returns
returns c = absurd-on c.args.written.now _ c.absurd.ensures
