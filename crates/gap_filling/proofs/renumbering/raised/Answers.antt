use Rattle.std.proofs.Common.{◌∙◌, sym, refl, ap, arith, map}
use Rattle.gap_filling.specs.Renumbered.{held, gap_of}
use Rattle.gap_filling.proofs.Sums.{brought, raised-by, ended}
use Rattle.gap_filling.proofs.renumbering.raised.Goals as goal

pub returns : goal.returns
returns c =
    ended (λ gaps. brought c.args.number (map gap_of gaps)) refl c.args.gaps.now
    c.loop-gap.gap-index c.loop-gap.new _ (omega (arith, c.loop-gap-test.false))
    c.loop-gap.invariant.0 c.loop-gap.invariant.1
    ∙ ap held (sym (raised-by (map gap_of c.args.gaps.now) c.args.number))
