use Rattle.std.proofs.Common.{◌≡◌, ◌∙◌, ap, sym, is_some}
use Rattle.rule_rows.proofs.FoundRules.{found_rule, found-is_some, found-named, each_found}
use Rattle.rule_rows.proofs.names.rule_of.Goals as goal

-- the search is that of the table
found : (c : goal.After-rule_among) → c.rule_among.result ≡ found_rule c.args.name.now
found c = c.rule_among.ensures

pub returns-clause-named : goal.returns-clause-named
returns-clause-named c rule = (
  λ e. found-named c.args.name.now rule (sym (found c) ∙ e),
  λ e. found c ∙ ap found_rule e ∙ each_found rule,
)

pub returns-clause-known : goal.returns-clause-known
returns-clause-known c = ap is_some (found c) ∙ found-is_some c.args.name.now
