use Rattle.std.proofs.Common.{◌≡◌, max, length, map}
use Rattle.formula_syntax.specs.Formulas.{pair_of}
use Rattle.formula_syntax.specs.Renaming as own
use Rattle.formula_syntax.proofs.renaming.longest_put.Given as goal

abbrev pub invariant-pairs : goal.invariant-pairs
invariant-pairs l =
    max l.longest (own.longest_put (map pair_of l.rest))
    ≡ max l.fn.longest (own.longest_put (map pair_of l.pairs))

abbrev pub decreases-pairs : goal.decreases-pairs
decreases-pairs l = length l.rest
