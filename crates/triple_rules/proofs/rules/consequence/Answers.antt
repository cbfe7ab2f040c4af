use Rattle.triple_rules.proofs.OnWritten.{consequence-on}
use Rattle.triple_rules.proofs.rules.consequence.Goals as goal

pub returns : goal.returns
returns c = consequence-on c.args.written.now _ c.consequence.ensures
