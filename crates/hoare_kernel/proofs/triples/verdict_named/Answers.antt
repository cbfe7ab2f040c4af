-- The rows of a rule for triples, and of an axiom.
use Rattle.std.proofs.Common.{List, ℕ, IfOk, sym, subst}
use Rattle.rule_table.specs.Table.{triples}
use Rattle.rule_table.specs.Verdicts.{IsVerdict, readings_in}
use Rattle.row_patterns.specs.Verdicts.{verdict_in}
use Rattle.triple_rules.specs.Procedures.{procedures_in}
use Rattle.triple_rules.specs.Written.{written_in}
use Rattle.hoare_kernel.proofs.triples.verdict_named.Goals as goal

pub returns-in-Some-clause-exact : goal.returns-in-Some-clause-exact
returns-in-Some-clause-exact c =
    let ps = procedures_in c.args.callees.procedures.now in
    subst (λ (name : List ℕ). IfOk c.verdict_of.result
    (λ v. IsVerdict (readings_in (triples ps) name) (written_in c.args.written.now) (verdict_in v)))
    (sym (c.in-Some.ensures ps)) c.verdict_of.ensures.exact

pub returns-in-None-clause-exact : goal.returns-in-None-clause-exact
returns-in-None-clause-exact c =
    let ps = procedures_in c.args.callees.procedures.now in
    subst (λ rows. IfOk c.axiom_by.result
    (λ v. IsVerdict rows (written_in c.args.written.now) (verdict_in v)))
    (sym (c.in-None.ensures ps)) c.axiom_by.ensures.exact
