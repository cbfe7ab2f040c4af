use Rattle.std.proofs.Common.{◌∙◌, ℕ, List, Bor}
use Rattle.rule_rows.specs.declared.names.EntailRule.{EntailRule}
use Rattle.rule_rows.proofs.FoundRules.{searched}
use Rattle.rule_rows.proofs.names.rule_among.Goals as goal

pub returns : goal.returns
returns c =
    c.find_rule.ensures
    ∙ searched {X = Bor (List ℕ) × EntailRule} (λ named. named.0.now) (λ named. named.1)
    c.args.name.now c.args.rules.now
