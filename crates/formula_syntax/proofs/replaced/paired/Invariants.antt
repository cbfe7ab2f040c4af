use Rattle.std.proofs.Common.{◌≡◌, length, map}
use Rattle.formula_syntax.specs.Formulas.{pair_of}
use Rattle.formula_syntax.specs.Substitution.{replacing_each, var_named}
use Rattle.formula_syntax.proofs.replaced.paired.Given as goal

-- the pairs that are left decide
abbrev pub invariant-pairs : goal.invariant-pairs
invariant-pairs l = record {
  same : replacing_each (map pair_of l.pairs) (var_named l.name)
      ≡ replacing_each (map pair_of l.rest) (var_named l.name);
}

abbrev pub decreases-pairs : goal.decreases-pairs
decreases-pairs l = length l.rest
