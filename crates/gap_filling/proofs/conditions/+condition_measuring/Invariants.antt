use Rattle.std.proofs.Common.{◌+◌, ◌*◌}
use Rattle.dom_terms.specs.Conditions.{cond_of}
use Rattle.theory_writing.proofs.ConditionSizes.{conditions_in}
use Rattle.gap_filling.proofs.conditions.+condition_measuring.Given as goal

abbrev pub decreases-measure_condition : goal.decreases-measure_condition
decreases-measure_condition l = 2 * conditions_in (cond_of l.cond.now)

abbrev pub decreases-measure_denied : goal.decreases-measure_denied
decreases-measure_denied l = 2 * conditions_in (cond_of l.inner.now) + 1

abbrev pub decreases-measure_both : goal.decreases-measure_both
decreases-measure_both l =
    2 * (conditions_in (cond_of l.left.now) + conditions_in (cond_of l.right.now)) + 1
