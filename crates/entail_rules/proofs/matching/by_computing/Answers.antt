-- A rule that computes has no premises.
use Rattle.row_patterns.specs.Verdicts.{verdict_in}
use Rattle.entail_rules.specs.Judged.{all_cited}
use Rattle.entail_rules.proofs.RuleVerdicts.{not-none, where-unasked}
use Rattle.entail_rules.proofs.matching.by_computing.Goals as goal

pub returns-in_default : goal.returns-in_default
returns-in_default c =
    where-unasked c.args.arguments.now c.args.conclusion.now c.args.rule (all_cited c.args.cited)
    (verdict_in c.in_ok-verdict.verdict) (verdict_in c.without_premises.result)
    (not-none c.args.cited c.in_default.not-Nothing) c.without_premises.ensures
    c.in_ok-verdict.ensures
