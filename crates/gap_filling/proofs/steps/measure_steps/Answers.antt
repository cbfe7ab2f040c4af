use Rattle.gap_filling.proofs.StepRooms.{steps_go_on, numbers_go_on}
use Rattle.gap_filling.proofs.steps.measure_steps.Goals as goal

pub loop-step-preserved : goal.loop-step-preserved
loop-step-preserved c = (
  (λ version. rw (c.measure_step.ensures.room version)
      (steps_go_on version c.args.steps.now c.loop-step.step-index c.step-item.result
      c.loop-step.meter _ c.loop-step-test.true c.step-item.is
      (c.loop-step.invariant.0 version))),
  numbers_go_on c.args.steps.now c.loop-step.step-index c.step-item.result _ c.loop-step-test.true
      c.step-item.is c.measure_step.ensures.small c.loop-step.invariant.1,
)
