use Rattle.rule_table.proofs.OneVerdict.{one-verdict-of}
use Rattle.rule_table.proofs.a_step_has_one_verdict.Goals as goal

pub returns : goal.returns
returns c = one-verdict-of
