-- The parts of a row have smaller numbers.
use Rattle.numbered_formulas.proofs.shifting.+is_shifted_below.Given as goal

abbrev pub decreases-is_shifted_below : goal.decreases-is_shifted_below
decreases-is_shifted_below l = l.from
