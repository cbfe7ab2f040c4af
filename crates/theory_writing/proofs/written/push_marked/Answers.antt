use Rattle.std.proofs.Common.{rules, codes}
use Rattle.theory_writing.proofs.MarkLemmas.{goes_on}
use Rattle.theory_writing.proofs.written.push_marked.Goals as goal

pub loop-item-preserved : goal.loop-item-preserved
loop-item-preserved g c = (
  rw (c.in_ok-push.ensures, c.in_ok-push_token.ensures)
      (goes_on g.W.Writer.lexemes c.loop-item.mark.now (codes ",") c.args.items.now
      c.loop-item.item-index c.item-item.result c.loop-item.text _
      c.loop-item-test.true c.item-item.is c.loop-item.invariant.0),
  search rules,
)
