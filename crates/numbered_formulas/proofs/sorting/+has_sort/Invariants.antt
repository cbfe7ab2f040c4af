-- The parts of a row have smaller numbers.
use Rattle.numbered_formulas.proofs.sorting.+has_sort.Given as goal

abbrev pub decreases-has_sort : goal.decreases-has_sort
decreases-has_sort l = l.number
