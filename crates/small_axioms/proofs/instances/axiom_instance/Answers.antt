-- The verdict is that at a step with nothing before it, and an instance holds.
use Rattle.std.proofs.Common.{[]}
use Rattle.std.proofs.lemmas.Result.{IfOk-weaker}
use Rattle.small_axioms.specs.Steps.{judgement_of}
use Rattle.small_axioms.proofs.Sound.{instance-sound}
use Rattle.small_axioms.proofs.instances.axiom_instance.Goals as goal

pub returns-clause-exact : goal.returns-clause-exact
returns-clause-exact c = c.axiom_verdict.ensures.exact []

pub returns-clause-sound : goal.returns-clause-sound
returns-clause-sound c =
    IfOk-weaker c.axiom_verdict.result _ _
    (λ v h. instance-sound c.args.name.now (judgement_of c.args.triple.now) v h)
    (c.axiom_verdict.ensures.exact [])
