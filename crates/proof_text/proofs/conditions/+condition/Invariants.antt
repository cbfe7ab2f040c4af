use Rattle.std.proofs.Common.{◌+◌, ◌*◌}
use Rattle.proof_text.proofs.conditions.+condition.Given as goal

-- the nesting that is left, and at one depth the order of the calls
abbrev pub decreases-condition : goal.decreases-condition
decreases-condition l = 4 * l.depth

abbrev pub decreases-boxed : goal.decreases-boxed
decreases-boxed l = 4 * l.depth + 1

abbrev pub decreases-connected : goal.decreases-connected
decreases-connected l = 4 * l.depth + 2

abbrev pub decreases-bracket : goal.decreases-bracket
decreases-bracket l = 4 * l.depth + 3
