-- Where the citations are no premises of a rule, no line follows.
use Rattle.row_patterns.specs.Verdicts.{verdict_in}
use Rattle.rule_rows.specs.Names.{name_of}
use Rattle.entail_rules.proofs.RuleVerdicts.{where-refused}
use Rattle.entail_rules.proofs.matching.verdict_within.Goals as goal

pub returns-in_ok-found-in-None-clause-exact : goal.returns-in_ok-found-in-None-clause-exact
returns-in_ok-found-in-None-clause-exact c =
    rw c.in-None.is
    (where-refused c.args.arguments.now c.args.conclusion.now (name_of c.args.rule)
    (verdict_in c.in_ok-found-in-None.found.verdict) (verdict_in c.without_premises.result)
    c.without_premises.ensures c.in_ok-found-in-None.ensures.exact)
