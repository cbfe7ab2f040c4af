use Rattle.triple_rules.proofs.OnWritten.{while-on}
use Rattle.triple_rules.proofs.rules.while_do.Goals as goal

pub returns : goal.returns
returns c = while-on c.args.written.now _ c.while_do.ensures
