use Rattle.std.proofs.Common.{◌+◌, ◌*◌}
use Rattle.model_formulas.specs.Parts.{parts}
use Rattle.formula_syntax.specs.Formulas.{formula_of}
use Rattle.logic_text.proofs.formula_writing.+formula_writing.Given as goal

abbrev pub decreases-push_formula : goal.decreases-push_formula
decreases-push_formula l = 4 * parts (formula_of l.formula.now)

abbrev pub decreases-push_between : goal.decreases-push_between
decreases-push_between l = 4 * parts (formula_of l.inner.now) + 1

abbrev pub decreases-push_negated : goal.decreases-push_negated
decreases-push_negated l = 4 * parts (formula_of l.inner.now) + 2

abbrev pub decreases-push_met : goal.decreases-push_met
decreases-push_met l = 4 * parts (formula_of l.inner.now) + 2

abbrev pub decreases-push_quantified : goal.decreases-push_quantified
decreases-push_quantified l = 4 * parts (formula_of l.inner.now) + 2

abbrev pub decreases-push_node : goal.decreases-push_node
decreases-push_node l = 4 * parts (formula_of l.children.now) + 2

abbrev pub decreases-push_joined : goal.decreases-push_joined
decreases-push_joined l =
    4 * (parts (formula_of l.left.now) + parts (formula_of l.right.now)) + 2
