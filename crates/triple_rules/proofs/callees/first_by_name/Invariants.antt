use Rattle.std.proofs.Common.{◌≤◌, length, drop}
use Rattle.triple_rules.specs.Callees.{Tells}
use Rattle.triple_rules.proofs.callees.first_by_name.Given as goal

-- those from the place on are told
abbrev pub invariant-loop-place : goal.invariant-loop-place
invariant-loop-place l =
    (l.place ≤ length l.procedures) × Tells l.names (drop l.place l.procedures)

abbrev pub decreases-loop-place : goal.decreases-loop-place
decreases-loop-place l = l.place
