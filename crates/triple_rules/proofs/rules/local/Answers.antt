use Rattle.triple_rules.proofs.OnWritten.{local-on}
use Rattle.triple_rules.proofs.rules.local.Goals as goal

pub returns : goal.returns
returns c = local-on c.args.written.now _ c.local.ensures
