use Rattle.triple_rules.proofs.OnWritten.{if-on}
use Rattle.triple_rules.proofs.rules.if_else.Goals as goal

pub returns : goal.returns
returns c = if-on c.args.written.now _ c.if_else.ensures
