use Rattle.theory_syntax.specs.Commands.{command_of}
use Rattle.std.proofs.Common.{◌≡◌, sym, Some}
use Rattle.domcheck_core.specs.Preconditions.{bent_answer}
use Rattle.domcheck_core.proofs.Judged.{said}
use Rattle.domcheck_core.proofs.Weakest.{bent-answer}
use Rattle.domcheck_core.proofs.preconditions.bent.Goals as goal

pub returns : goal.returns
returns c =
    said (λ r. r.status) (λ r. r.output)
    (λ s o. bent_answer (command_of c.args.body.now) ≡ Some (s, o)) _ _ c.reported.result
    (bent-answer (command_of c.args.body.now) (command_of c.in-Some.command.now)
    (sym c.in-Some.ensures))
    c.reported.ensures.status (rw c.in_ok-command.ensures at c.reported.ensures.output)
