use Rattle.std.proofs.lemmas.Result.{IfOk-weaker}
use Rattle.domcheck_core.proofs.Judged.{printed}
use Rattle.domcheck_core.proofs.OneAnswer.{one_wp}
use Rattle.domcheck_core.proofs.preconditions.wp_bytes.Goals as goal

pub returns-clause-exactly : goal.returns-clause-exactly
returns-clause-exactly c = λ s output a.
    IfOk-weaker c.wp_until.result _ _
    (λ r h. one_wp c.args.procedure.now c.args.file.now r.status s r.output output h a)
    c.wp_until.ensures

pub returns-clause-precondition : goal.returns-clause-precondition
returns-clause-precondition c =
    IfOk-weaker c.wp_until.result _ _
    (λ r h. printed c.args.procedure.now c.args.file.now r.status r.output h) c.wp_until.ensures
