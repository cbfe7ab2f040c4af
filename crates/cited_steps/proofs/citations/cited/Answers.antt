use Rattle.cited_steps.proofs.Numbers.{none_cited, one_cited, none_nameless, one_nameless}
use Rattle.cited_steps.proofs.citations.cited.Goals as goal

pub returns-in_err-step-clause-written : goal.returns-in_err-step-clause-written
returns-in_err-step-clause-written c =
    rw c.from_residual.ensures
    (none_cited c.args.number c.args.earlier.now c.in_err-step.ensures)

pub returns-in_err-step-clause-nameless : goal.returns-in_err-step-clause-nameless
returns-in_err-step-clause-nameless c =
    rw c.from_residual.ensures
    (none_nameless c.args.number c.args.earlier.now c.in_err-step.ensures)

pub returns-clause-written : goal.returns-clause-written
returns-clause-written c =
    one_cited c.args.number c.args.earlier.now c.in_ok-step.step.now c.requires.small
    c.in_ok-step.ensures

pub returns-clause-nameless : goal.returns-clause-nameless
returns-clause-nameless c =
    one_nameless c.args.number c.args.earlier.now c.in_ok-step.step.now c.requires.small
    c.in_ok-step.ensures
