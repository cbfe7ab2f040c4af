-- The parts of a row have smaller numbers.
use Rattle.numbered_formulas.proofs.shifting.+is_term_shifted.Given as goal

abbrev pub decreases-is_term_shifted : goal.decreases-is_term_shifted
decreases-is_term_shifted l = l.from
