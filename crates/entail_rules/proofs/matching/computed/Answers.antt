-- The verdict by each rule that computes is that of its name.
use Rattle.std.proofs.Common.{Some, []}
use Rattle.rule_rows.specs.declared.ways.Computed.TheVariants as cp
use Rattle.row_patterns.specs.Verdicts.{verdict_in}
use Rattle.entail_rules.specs.Premises.{written_with}
use Rattle.entail_rules.proofs.RuleVerdicts.{by-its-kind, of-its-kind}
use Rattle.entail_rules.proofs.matching.computed.Goals as goal

pub returns-in-EqSubst : goal.returns-in-EqSubst
returns-in-EqSubst c =
    of-its-kind c.args.rule cp.EqSubst
    (written_with c.args.arguments.now (Some []) c.args.conclusion.now)
    (verdict_in c.eq_subst.result) c.in-EqSubst.is c.eq_subst.ensures

pub returns-in-Distinct : goal.returns-in-Distinct
returns-in-Distinct c =
    of-its-kind c.args.rule cp.Distinct
    (written_with c.args.arguments.now (Some []) c.args.conclusion.now)
    (verdict_in c.distinct.result) c.in-Distinct.is c.distinct.ensures

pub returns-in-Linear : goal.returns-in-Linear
returns-in-Linear c =
    by-its-kind c.args.rule cp.Linear
    (written_with c.args.arguments.now (Some []) c.args.conclusion.now) c.linear.result
    c.in-Linear.is c.linear.ensures

pub returns-in-Concat : goal.returns-in-Concat
returns-in-Concat c =
    by-its-kind c.args.rule cp.Concat
    (written_with c.args.arguments.now (Some []) c.args.conclusion.now) c.concat.result
    c.in-Concat.is c.concat.ensures
