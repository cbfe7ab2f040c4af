use Rattle.std.proofs.Common.{map}
use Rattle.dom_terms.specs.Terms.{term_of}
use Rattle.gap_filling.proofs.StepRooms.{reason_room}
use Rattle.gap_filling.proofs.steps.measure_reason.Goals as goal

pub returns-in-Rule-clause-room : goal.returns-in-Rule-clause-room
returns-in-Rule-clause-room c = λ version. rw (
  c.in-Rule.is,
  c.measure_arguments.ensures,
  c.measure_numbers.ensures.room,
  c.rule_name.ensures version,
  c.token-in-Rule.ensures,
  c.as_slice.ensures,
  c.as_str.ensures,
) (reason_room version c.in-Rule.name c.in-Rule.premises (map term_of c.in-Rule.arguments)
    c.args.meter.now)
