use Rattle.std.proofs.lemmas.Result.{IfOk-weaker}
use Rattle.theory_syntax.specs.Theories.{theory_of}
use Rattle.domcheck_core.specs.Answers.{NoFile, judged, no_file}
use Rattle.domcheck_core.proofs.Refusing.{told}
use Rattle.domcheck_core.proofs.preconditions.wp_until.Goals as goal

pub verdict-reply-requires : goal.verdict-reply-requires
verdict-reply-requires c = (c.args.file.now, c.in-Ok.ensures.is)

pub returns-in-Ok : goal.returns-in-Ok
returns-in-Ok c =
    IfOk-weaker c.verdict-reply.result _ _
    (λ r h. judged (theory_of c.in-Ok.theory) c.in-Ok.ensures.is h) c.verdict-reply.ensures

pub returns-in-Err : goal.returns-in-Err
returns-in-Err c =
    IfOk-weaker c.answered.result _ _ (λ r h. no_file h)
    (told (λ r. r.status) (λ r. r.output) (NoFile c.args.file.now) c.in-Err.why
    c.answered.result c.in-Err.ensures.told c.answered.ensures)
