use Rattle.std.proofs.Common.{◌∙◌}
use Rattle.wp_calc.proofs.StraightLaws.{all-later, place-here, place-later}
use Rattle.wp_calc.proofs.straight.+place_after.Goals as goal

pub place_after_block-returns-in-Err : goal.place_after_block-returns-in-Err
place_after_block-returns-in-Err t c =
    c.loop-command.invariant.same
    ∙ place-here c.as_slice-command-items.result.now c.loop-command.command-index
    c.command-item.result c.loop-command-test.true c.command-item.is
    c.loop-command.next c.in-Err.part (c.in-Err.ensures {u = tt})

pub place_after_block-loop-command-preserved : goal.place_after_block-loop-command-preserved
place_after_block-loop-command-preserved t c =
    let after = c.in-Ok.ensures {u = tt} in
    record {
      all = all-later c.as_slice-command-items.result.now c.loop-command.command-index
          c.command-item.result c.loop-command-test.true c.command-item.is _ c.loop-command.next
          c.in-Ok.after c.loop-command.invariant.all after.1;
      same = c.loop-command.invariant.same
          ∙ place-later c.as_slice-command-items.result.now c.loop-command.command-index
          c.command-item.result c.loop-command-test.true c.command-item.is c.loop-command.next
          c.in-Ok.after after.0 after.1;
    }
