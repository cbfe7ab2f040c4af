use Rattle.theory_writing.proofs.LineLemmas.{goes_on}
use Rattle.theory_writing.proofs.lines.push_each.Goals as goal

pub loop-item-preserved : goal.loop-item-preserved
loop-item-preserved g c =
    rw c.in_ok-push_lines.ensures
    (goes_on g.T.Lines.own_text c.args.items.now c.loop-item.item-index c.item-item.result
    c.loop-item.text _ c.loop-item-test.true c.item-item.is c.loop-item.invariant)
