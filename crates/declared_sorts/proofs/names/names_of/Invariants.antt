use Rattle.std.proofs.Common.{◌≤◌, length, drop, map}
use Rattle.declared_sorts.specs.Names.{Tells}
use Rattle.declared_sorts.proofs.names.names_of.Given as goal

-- those from the place on are told
abbrev pub invariant-loop-place : goal.invariant-loop-place
invariant-loop-place g l =
    (l.place ≤ length l.all) × Tells l.names (map g.V.Declares.declaration (drop l.place l.all))

abbrev pub decreases-loop-place : goal.decreases-loop-place
decreases-loop-place g l = l.place
