use Rattle.std.proofs.Common.{◌≡◌, map, length}
use Rattle.std.specs.List.{list_all}
use Rattle.computed_rules.specs.Sums.{comparison_of, test_of}
use Rattle.computed_rules.proofs.comparisons.all_pass.Given as goal

-- those that are left decide
abbrev pub invariant-comparisons : goal.invariant-comparisons
invariant-comparisons l = record {
  same : list_all (test_of l.test) (map comparison_of l.comparisons)
      ≡ list_all (test_of l.test) (map comparison_of l.rest);
}

abbrev pub decreases-comparisons : goal.decreases-comparisons
decreases-comparisons l = length l.rest
