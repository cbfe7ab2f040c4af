use Rattle.std.proofs.Common.{arith}
use Rattle.outside_io.proofs.Pieces.{Took-step}
use Rattle.outside_io.proofs.sink.write_all_of.Goals as goal

pub loop-at-preserved : goal.loop-at-preserved
loop-at-preserved g c =
    record {
      within = search (arith);
      bytes =
          Took-step _ _ _ c.args.bytes.now c.loop-at.at c.in_ok-count.count
          c.loop-at.invariant.bytes c.in_ok-count.ensures.bytes;
      later = omega (arith, c.loop-at.invariant.later, c.put.ensures.later);
    }
