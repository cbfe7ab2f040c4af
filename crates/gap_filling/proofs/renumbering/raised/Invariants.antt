use Rattle.std.proofs.Common.{◌≡◌, ◌+◌, ◌≤◌, drop, map}
use Rattle.gap_filling.specs.Renumbered.{held, gap_of}
use Rattle.gap_filling.proofs.Sums.{brought}
use Rattle.gap_filling.proofs.renumbering.raised.Given as goal

abbrev pub invariant-loop-gap : goal.invariant-loop-gap
invariant-loop-gap l =
    (held (l.new + brought l.number (map gap_of (drop l.gap-index l.gaps)))
    ≡ held (l.number + brought l.number (map gap_of l.gaps)))
    × (l.new ≤ 4294967295)
