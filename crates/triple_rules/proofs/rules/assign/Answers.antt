use Rattle.triple_rules.proofs.OnWritten.{assign-on}
use Rattle.triple_rules.proofs.rules.assign.Goals as goal

pub returns : goal.returns
returns c = assign-on c.args.written.now _ c.assign.ensures
