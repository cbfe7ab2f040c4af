use Rattle.cited_steps.specs.Earlier.{steps_in}
use Rattle.hoare_kernel.proofs.axioms.axiom_by.Goals as goal

pub returns-clause-exact : goal.returns-clause-exact
returns-clause-exact c =
    c.axiom_verdict.ensures.exact (steps_in c.args.written.now.earlier.now)
