-- The parts of a row have smaller numbers.
use Rattle.numbered_formulas.proofs.finding.+bound_in_term.Given as goal

abbrev pub decreases-bound_in_term : goal.decreases-bound_in_term
decreases-bound_in_term l = l.from
