-- The parts of a row have smaller numbers.
use Rattle.numbered_formulas.proofs.occurring.+is_pure.Given as goal

abbrev pub decreases-is_pure : goal.decreases-is_pure
decreases-is_pure l = l.number
