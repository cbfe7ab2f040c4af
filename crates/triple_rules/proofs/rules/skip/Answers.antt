use Rattle.triple_rules.proofs.OnWritten.{skip-on}
use Rattle.triple_rules.proofs.rules.skip.Goals as goal

pub returns : goal.returns
returns c = skip-on c.args.written.now _ c.skip.ensures
