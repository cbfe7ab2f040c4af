-- The parts of a row have smaller numbers.
use Rattle.numbered_formulas.proofs.occurring.+stands_free.Given as goal

abbrev pub decreases-stands_free : goal.decreases-stands_free
decreases-stands_free l = l.number
