use Rattle.rule_patterns.proofs.Ties.{tied}
use Rattle.rule_patterns.proofs.the_patterns_are_the_rows.Goals as goal

pub returns : goal.returns
returns c = tied
