use Rattle.std.proofs.lemmas.Result.{IfOk-weaker}
use Rattle.domcheck_core.proofs.Judged.{sound}
use Rattle.domcheck_core.proofs.OneAnswer.{one_check}
use Rattle.domcheck_core.proofs.checks.check_bytes.Goals as goal

pub returns-clause-exactly : goal.returns-clause-exactly
returns-clause-exactly c = λ s output a.
    IfOk-weaker c.check_until.result _ _
    (λ r h. one_check c.args.bytes.now r.status s r.output output h a) c.check_until.ensures

pub returns-clause-soundness_of_yes : goal.returns-clause-soundness_of_yes
returns-clause-soundness_of_yes c =
    IfOk-weaker c.check_until.result _ _
    (λ r h. sound c.args.bytes.now r.status r.output h) c.check_until.ensures
