use Rattle.std.proofs.Common.{◌≡◌, ◌≤◌, length, take}
use Rattle.gap_filling.proofs.usable.cut.Given as goal

-- the first steps stay
abbrev pub invariant-loop-steps : goal.invariant-loop-steps
invariant-loop-steps l = (take l.kept l.steps ≡ take l.kept l.fn.steps) × (l.kept ≤ length l.steps)

abbrev pub decreases-loop-steps : goal.decreases-loop-steps
decreases-loop-steps l = length l.steps
