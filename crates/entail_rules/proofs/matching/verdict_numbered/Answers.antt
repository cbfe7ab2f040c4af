-- The verdict of the walks over the numbers is the rule's.
use Rattle.row_patterns.specs.Verdicts.{verdict_in}
use Rattle.row_patterns.specs.Views.{patterns_in}
use Rattle.rule_rows.specs.Names.{name_of}
use Rattle.entail_rules.proofs.RuleVerdicts.{by-its-rows}
use Rattle.entail_rules.proofs.matching.verdict_numbered.Goals as goal

pub returns-in-Matched : goal.returns-in-Matched
returns-in-Matched c =
    by-its-rows c.args.arguments.now c.args.conclusion.now (name_of c.args.rule)
    (patterns_in c.in-Matched.rows.now) c.args.table.now c.args.numbers.now
    c.as_slice.result.now c.args.cited (verdict_in c.verdict_by.result) c.in-Matched.ensures.way
    c.requires.numbers c.as_slice.ensures.value c.verdict_by.ensures
