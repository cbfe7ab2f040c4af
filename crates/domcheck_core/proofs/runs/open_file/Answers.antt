use Rattle.domcheck_core.specs.Answers.{NoFile}
use Rattle.domcheck_core.proofs.Refusing.{told_one}
use Rattle.domcheck_core.proofs.Running.{unread}
use Rattle.domcheck_core.proofs.runs.open_file.Goals as goal

pub returns-in_ok-answered-in-Err : goal.returns-in_ok-answered-in-Err
returns-in_ok-answered-in-Err c =
    unread c.args.file.now c.args.procedure.now c.args.arguments.now _ _
    (told_one (NoFile c.args.file.now) c.in-Err.why _ _ c.in-Err.ensures.told
    c.in_ok-answered-in-Err.ensures)
