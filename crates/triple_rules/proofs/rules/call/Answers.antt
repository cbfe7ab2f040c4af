use Rattle.std.proofs.lemmas.Result.{IfOk-weaker}
use Rattle.row_patterns.specs.Verdicts.{verdict_in}
use Rattle.triple_rules.specs.Procedures.{procedures_in}
use Rattle.triple_rules.proofs.OnWritten.{call-on}
use Rattle.triple_rules.proofs.rules.call.Goals as goal

pub returns : goal.returns
returns c =
    IfOk-weaker c.call.result _ _
    (λ v. call-on c.args.written.now (verdict_in v) (procedures_in c.args.callees.procedures.now))
    c.call.ensures
