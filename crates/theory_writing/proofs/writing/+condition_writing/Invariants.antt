use Rattle.std.proofs.Common.{◌+◌, ◌*◌}
use Rattle.dom_terms.specs.Conditions.{cond_of}
use Rattle.theory_writing.proofs.ConditionSizes.{conditions_in}
use Rattle.theory_writing.proofs.writing.+condition_writing.Given as goal

abbrev pub decreases-push_condition : goal.decreases-push_condition
decreases-push_condition l = 2 * conditions_in (cond_of l.cond.now)

abbrev pub decreases-push_denied : goal.decreases-push_denied
decreases-push_denied l = 2 * conditions_in (cond_of l.inner.now) + 1

abbrev pub decreases-push_both : goal.decreases-push_both
decreases-push_both l =
    2 * (conditions_in (cond_of l.left.now) + conditions_in (cond_of l.right.now)) + 1
