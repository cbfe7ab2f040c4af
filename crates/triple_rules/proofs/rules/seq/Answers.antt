use Rattle.triple_rules.proofs.OnWritten.{seq-on}
use Rattle.triple_rules.proofs.rules.seq.Goals as goal

pub returns : goal.returns
returns c = seq-on c.args.written.now _ c.seq.ensures
