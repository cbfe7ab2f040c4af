-- No rule of entailment concludes a triple, so the rows are those of the rules for triples.
use Rattle.std.proofs.Common.{refl}
use Rattle.std.proofs.lemmas.Result.{IfOk-weaker}
use Rattle.row_patterns.specs.Verdicts.{verdict_in}
use Rattle.triple_rules.specs.Procedures.{procedures_in}
use Rattle.triple_rules.specs.Written.{written_in}
use Rattle.hoare_kernel.proofs.RowsOfNames.{triple-by}
use Rattle.hoare_kernel.proofs.triples.triple_by.Goals as goal

pub returns-clause-exact : goal.returns-clause-exact
returns-clause-exact c =
    IfOk-weaker c.verdict_named.result _ _
    (λ v. triple-by (procedures_in c.args.callees.procedures.now) c.args.name.now
    (written_in c.args.written.now) (verdict_in v) refl)
    c.verdict_named.ensures.exact
