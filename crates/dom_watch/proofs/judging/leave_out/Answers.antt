use Rattle.std.proofs.Common.{◌∙◌, arith}
use Rattle.std.specs.List.{slice_set}
use Rattle.dom_watch.proofs.Cuts.{others_on}
use Rattle.dom_watch.proofs.judging.leave_out.Goals as goal

pub loop-at-preserved : goal.loop-at-preserved
loop-at-preserved c =
    (λ j. slice_set (c.loop-at.invariant j) c.loop-at.at (c.index-trees-at.is j))
    ∙ others_on c.args.trees.now c.index-trees-at.result c.loop-at.at
    (omega (arith, c.requires.there, c.loop-at-test.true))
