use Rattle.std.proofs.Common.{rules, codes}
use Rattle.gap_filling.proofs.Marks.{goes_on}
use Rattle.gap_filling.proofs.items.measure_marked.Goals as goal

pub loop-item-preserved : goal.loop-item-preserved
loop-item-preserved g c = (
  rw (c.measure.ensures, c.token.ensures)
      (goes_on g.T.Item.lexemes c.loop-item.mark.now (codes ",") c.args.items.now
      c.loop-item.item-index c.item-item.result c.item-item.result
      c.loop-item.meter _
      c.loop-item-test.true c.item-item.is c.loop-item.invariant.0),
  search rules,
)
