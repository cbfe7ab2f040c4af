use Rattle.std.proofs.Common.{◌+◌, ◌*◌}
use Rattle.logic_text.proofs.term_reading.+term.Given as goal

-- the nesting that is left, and at one depth the order of the calls
abbrev pub decreases-term : goal.decreases-term
decreases-term l = 4 * l.depth

abbrev pub decreases-boxed : goal.decreases-boxed
decreases-boxed l = 4 * l.depth + 1

abbrev pub decreases-operation : goal.decreases-operation
decreases-operation l = 4 * l.depth + 2

abbrev pub decreases-term_from : goal.decreases-term_from
decreases-term_from l = 4 * l.depth + 3
