use Rattle.std.proofs.Common.{◌≡◌, Some}
use Rattle.std.proofs.lemmas.Result.{IfOk-weaker}
use Rattle.theory_syntax.specs.Commands.{command_of}
use Rattle.domcheck_core.specs.Preconditions.{body_refusal}
use Rattle.domcheck_core.proofs.Judged.{said}
use Rattle.domcheck_core.proofs.Straights.{some-first}
use Rattle.domcheck_core.proofs.Weakest.{bent-refused, long-refused}
use Rattle.domcheck_core.proofs.preconditions.without.Goals as goal

pub bent-requires : goal.bent-requires
bent-requires c =
    some-first (command_of c.args.body.now) _ (rw c.in-NotStraight.is at c.requires)

pub returns-in-NotStraight : goal.returns-in-NotStraight
returns-in-NotStraight c =
    IfOk-weaker c.bent.result _ _
    (λ r h. bent-refused (command_of c.args.body.now) (r.status, r.output) h) c.bent.ensures

pub returns-in-TooLong : goal.returns-in-TooLong
returns-in-TooLong c =
    let long = rw c.in-TooLong.is at c.requires in
    said (λ r. r.status) (λ r. r.output)
    (λ s o. body_refusal (command_of c.args.body.now) ≡ Some (s, o)) _ _ c.reported.result
    (long-refused (command_of c.args.body.now) long.0 long.1)
    c.reported.ensures.status c.reported.ensures.output
