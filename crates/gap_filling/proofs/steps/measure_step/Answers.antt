use Rattle.gap_filling.proofs.StepRooms.{step_room}
use Rattle.gap_filling.proofs.steps.measure_step.Goals as goal

pub returns-clause-room : goal.returns-clause-room
returns-clause-room c = λ version. rw (
  c.token-2.ensures,
  c.measure_judgement.ensures,
  c.token.ensures,
  c.measure_reason.ensures.room version,
  c.numeral.ensures,
  c.from.ensures,
  c.step.ensures c.args.step.now.line,
) (step_room version c.args.step.now c.args.meter.now)
