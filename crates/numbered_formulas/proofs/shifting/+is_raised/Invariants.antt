-- The parts of a row have smaller numbers.
use Rattle.numbered_formulas.proofs.shifting.+is_raised.Given as goal

abbrev pub decreases-is_raised : goal.decreases-is_raised
decreases-is_raised l = l.from
