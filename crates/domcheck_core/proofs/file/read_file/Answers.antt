use Rattle.std.proofs.lemmas.Result.{err_from_is_err_and}
use Rattle.theory_syntax.specs.Theories.{theory_of}
use Rattle.domcheck_core.specs.Answers.{NoFile}
use Rattle.domcheck_core.specs.Refusals.{IfAnswer}
use Rattle.domcheck_core.proofs.Refusing.{handed_on, unread_file, refused_file, is_file}
use Rattle.domcheck_core.proofs.file.read_file.Goals as goal

pub returns-in_err-read-clause-told : goal.returns-in_err-read-clause-told
returns-in_err-read-clause-told c =
    let p = err_from_is_err_and c.from_residual.result c.from_residual.ensures.1 in
    handed_on (λ e. IfAnswer e (NoFile c.args.bytes.now)) c.from_residual.result p.0
    c.in_err-read.field-0.0 p.1 p.2
    (unread_file c.args.bytes.now c.in_err-read.field-0.0 c.in_err-read.ensures.told)

pub returns-in_err-admit-clause-told : goal.returns-in_err-admit-clause-told
returns-in_err-admit-clause-told c =
    let p = err_from_is_err_and c.from_residual-in_err-admit.result
    c.from_residual-in_err-admit.ensures.1 in
    handed_on (λ e. IfAnswer e (NoFile c.args.bytes.now)) c.from_residual-in_err-admit.result p.0
    c.in_err-admit.field-0.0 p.1 p.2
    (refused_file c.args.bytes.now (theory_of c.in_ok-read.read.theory) c.in_err-admit.field-0.0
    c.in_ok-read.ensures.reads c.in_ok-read.ensures.spelled c.in_err-admit.ensures.told)

pub returns-clause-is : goal.returns-clause-is
returns-clause-is c =
    is_file c.args.bytes.now (theory_of c.in_ok-read.read.theory) c.in_ok-read.ensures.reads
    c.in_ok-read.ensures.spelled c.in_ok-admit.ensures.passes
