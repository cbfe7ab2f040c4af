use Rattle.std.proofs.Common.{◌≡◌, map, length}
use Rattle.computed_rules.specs.Sums.{cancel_in, comparison_of}
use Rattle.computed_rules.proofs.sums.cancel.Given as goal

-- those that are left decide
abbrev pub invariant-comparisons : goal.invariant-comparisons
invariant-comparisons l = record {
  same : cancel_in l.form (map comparison_of l.comparisons)
      ≡ cancel_in l.form (map comparison_of l.rest);
}

abbrev pub decreases-comparisons : goal.decreases-comparisons
decreases-comparisons l = length l.rest
