-- The parts of a row have smaller numbers.
use Rattle.numbered_formulas.proofs.finding.+bound_in.Given as goal

abbrev pub decreases-bound_in : goal.decreases-bound_in
decreases-bound_in l = l.from
