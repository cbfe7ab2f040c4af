use Rattle.rule_table.proofs.RuleNames.{table_has_the_names}
use Rattle.rule_table.proofs.the_table_has_the_names.Goals as goal

pub returns : goal.returns
returns c = table_has_the_names
