use Rattle.gap_filling.proofs.Marks.{call_room}
use Rattle.gap_filling.proofs.commands.measure_call.Goals as goal

pub returns : goal.returns
returns c = rw (
  c.measure_bracketed-2.ensures,
  c.name.ensures.plain,
  c.token-2.ensures,
  c.measure_bracketed.ensures,
  c.token.ensures,
  c.as_slice.ensures,
  c.as_slice-2.ensures,
  c.as_str.ensures,
) (call_room c.args.results.now c.args.name.now c.args.arguments.now c.args.meter.now)
