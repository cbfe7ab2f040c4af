use Rattle.std.proofs.Common.{◌≡◌, ◌+◌, ◌≤◌, drop, map}
use Rattle.gap_filling.specs.Renumbered.{held, gap_of}
use Rattle.gap_filling.proofs.Sums.{total}
use Rattle.gap_filling.proofs.renumbering.moved.Given as goal

abbrev pub invariant-loop-gap : goal.invariant-loop-gap
invariant-loop-gap l =
    (held (l.new + total (map gap_of (drop l.gap-index l.gaps)))
    ≡ held (l.fn.number + total (map gap_of l.gaps)))
    × (l.new ≤ 4294967295)
