use Rattle.triple_rules.proofs.OnWritten.{disjunction-on}
use Rattle.triple_rules.proofs.rules.disjunction.Goals as goal

pub returns : goal.returns
returns c = disjunction-on c.args.written.now _ c.disjunction.ensures
