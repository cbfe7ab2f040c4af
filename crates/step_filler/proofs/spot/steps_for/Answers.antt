use Rattle.assistant_laws.specs.FillingPlans.{plan_of_application}
use Rattle.formula_syntax.specs.Formulas.{formula_of}
use Rattle.step_filler.specs.Layers.{way_of}
use Rattle.step_filler.proofs.Drafting.{finished-is-given}
use Rattle.step_filler.proofs.spot.steps_for.Goals as goal

pub returns : goal.returns
returns c = finished-is-given
    (plan_of_application (way_of c.args.way) (formula_of c.args.application.now)) c.args.number
    c.new-draft.result c.write_application-written.new.draft c.write_application-written.result
    c.finish.result c.new-draft.ensures.none c.new-draft.ensures.first
    c.write_application-written.ensures c.finish.ensures
