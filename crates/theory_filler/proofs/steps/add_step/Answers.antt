-- A written step asks nobody.
use Rattle.std.proofs.lemmas.Result.{on_ok_weaker}
use Rattle.theory_filler.proofs.Turns.{were-none}
use Rattle.theory_filler.proofs.steps.add_step.Goals as goal

pub returns-in-Rule-clause-leads : goal.returns-in-Rule-clause-leads
returns-in-Rule-clause-leads g c = λ f at.
    on_ok_weaker c.add_written.result (λ h. h (g.F.Fillers.voices c.args.fillers.now))
    (c.add_written.ensures.leads f at)

pub returns-in-Rule-clause-bad : goal.returns-in-Rule-clause-bad
returns-in-Rule-clause-bad g c = λ f at.
    c.add_written.ensures.bad f at (g.F.Fillers.voices c.args.fillers.now)

pub returns-in-Rule-clause-asked : goal.returns-in-Rule-clause-asked
returns-in-Rule-clause-asked g c = were-none (g.F.Fillers.voices c.args.fillers.now)
