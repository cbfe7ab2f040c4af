-- The parts of a row have smaller numbers.
use Rattle.numbered_formulas.proofs.occurring.+is_in_term.Given as goal

abbrev pub decreases-is_in_term : goal.decreases-is_in_term
decreases-is_in_term l = l.number
