use Rattle.domcheck_core.proofs.Running.{uncalled}
use Rattle.domcheck_core.proofs.runs.open_theory.Goals as goal

pub returns-in_ok-reply-in-None : goal.returns-in_ok-reply-in-None
returns-in_ok-reply-in-None c = λ file is.
    uncalled file c.args.procedure.now c.args.arguments.now c.args.theory _ _ is
    (rw c.in-None.is at c.in_ok-call.ensures)
    c.in_ok-reply-in-None.ensures.status c.in_ok-reply-in-None.ensures.output
