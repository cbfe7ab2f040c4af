-- The rows of some rules.
use Rattle.std.proofs.Common.{sym, subst}
use Rattle.std.specs.Prelude.{IfOk}
use Rattle.rule_table.specs.Table.{triples}
use Rattle.rule_table.specs.Verdicts.{IsVerdict, readings_in}
use Rattle.row_patterns.specs.Verdicts.{verdict_in}
use Rattle.triple_rules.specs.Procedures.{procedures_in}
use Rattle.triple_rules.specs.Written.{written_in}
use Rattle.hoare_kernel.specs.Names.{name_of}
use Rattle.hoare_kernel.proofs.triples.verdict_of.Goals as goal

pub returns-in-Frame-clause-exact : goal.returns-in-Frame-clause-exact
returns-in-Frame-clause-exact c =
    subst (λ rule. IfOk c.frame.result (λ v. IsVerdict
    (readings_in (triples (procedures_in c.args.callees.procedures.now)) (name_of rule))
    (written_in c.args.written.now) (verdict_in v))) (sym c.in-Frame.is) c.frame.ensures

pub returns-in-Instance-clause-exact : goal.returns-in-Instance-clause-exact
returns-in-Instance-clause-exact c =
    subst (λ rule. IfOk c.instance.result (λ v. IsVerdict
    (readings_in (triples (procedures_in c.args.callees.procedures.now)) (name_of rule))
    (written_in c.args.written.now) (verdict_in v))) (sym c.in-Instance.is) c.instance.ensures

pub returns-in-Local-clause-exact : goal.returns-in-Local-clause-exact
returns-in-Local-clause-exact c =
    subst (λ rule. IsVerdict
    (readings_in (triples (procedures_in c.args.callees.procedures.now)) (name_of rule))
    (written_in c.args.written.now) (verdict_in c.local.result)) (sym c.in-Local.is)
    c.local.ensures
