use Rattle.std.proofs.Common.{◌∙◌}
use Rattle.theory_syntax.specs.Commands.{command_of}
use Rattle.wp_calc.proofs.StraightLaws.{found-here, found-later}
use Rattle.wp_calc.proofs.straight.+first_not_straight.Goals as goal

pub first_in_block-returns-in-Some : goal.first_in_block-returns-in-Some
first_in_block-returns-in-Some t c =
    c.loop-command.invariant
    ∙ found-here c.as_slice-command-items.result.now c.loop-command.command-index
    c.command-item.result c.loop-command-test.true c.command-item.is
    (command_of c.in-Some.found.now) (c.in-Some.ensures {u = tt})

pub first_in_block-loop-command-preserved : goal.first_in_block-loop-command-preserved
first_in_block-loop-command-preserved t c =
    c.loop-command.invariant
    ∙ found-later c.as_slice-command-items.result.now c.loop-command.command-index
    c.command-item.result c.loop-command-test.true c.command-item.is (c.in_default.ensures {u = tt})
