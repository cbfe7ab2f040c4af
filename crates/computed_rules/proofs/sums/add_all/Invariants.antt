use Rattle.std.proofs.Common.{map, length}
use Rattle.computed_rules.specs.Forms.{Adds}
use Rattle.computed_rules.specs.Linear.{total}
use Rattle.computed_rules.specs.Sums.{comparison_of}
use Rattle.computed_rules.specs.declared.forms.LinearForm.{LinearForm}
use Rattle.computed_rules.proofs.sums.add_all.Given as goal

-- whatever adds those that are left adds all, from the start
abbrev pub invariant-comparisons : goal.invariant-comparisons
invariant-comparisons l = record {
  leads : (last : LinearForm) → Adds l.form last (total (map comparison_of l.rest))
      → Adds l.fn.form last (total (map comparison_of l.fn.comparisons));
}

abbrev pub decreases-comparisons : goal.decreases-comparisons
decreases-comparisons l = length l.rest
