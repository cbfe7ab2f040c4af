use Rattle.std.proofs.Common.{◌≡◌, [], IsTrue, false}
use Rattle.gap_filling.proofs.StepRooms.{arguments_room}
use Rattle.gap_filling.proofs.steps.measure_arguments.Goals as goal

pub returns-then-not-is_empty : goal.returns-then-not-is_empty
returns-then-not-is_empty c =
    let some : c.args.arguments.now ≡ [] → ⊥ =
    λ e. (let h : IsTrue false = c.if-not-is_empty.ensures.1 e in cc) in
    rw (c.measure_bracketed.ensures, c.token.ensures, c.as_slice.ensures)
    (arguments_room c.args.arguments.now some c.args.meter.now)
