use Rattle.std.proofs.lemmas.Result.{IfOk-weaker}
use Rattle.theory_syntax.specs.Theories.{theory_of}
use Rattle.domcheck_core.specs.Answers.{NoFile, judged, no_file}
use Rattle.domcheck_core.proofs.Fillings.{unasked}
use Rattle.domcheck_core.proofs.Refusing.{told}
use Rattle.domcheck_core.proofs.fills.fill_until.Goals as goal

pub returns-in-Ok-clause-answer : goal.returns-in-Ok-clause-answer
returns-in-Ok-clause-answer g c =
    IfOk-weaker c.filling-reply.result _ _
    (λ r h. judged (theory_of c.in-Ok.theory) c.in-Ok.ensures.is h) c.filling-reply.ensures.answer

pub returns-in-Err-clause-answer : goal.returns-in-Err-clause-answer
returns-in-Err-clause-answer g c =
    IfOk-weaker c.answered.result _ _ (λ r h. no_file h)
    (told (λ r. r.status) (λ r. r.output) (NoFile c.args.bytes.now) c.in-Err.why
    c.answered.result c.in-Err.ensures.told c.answered.ensures)

pub returns-in-Err-clause-asked : goal.returns-in-Err-clause-asked
returns-in-Err-clause-asked g c = unasked _
