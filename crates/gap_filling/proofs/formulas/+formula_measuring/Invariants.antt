use Rattle.std.proofs.Common.{◌+◌, ◌*◌}
use Rattle.model_formulas.specs.Parts.{parts}
use Rattle.formula_syntax.specs.Formulas.{formula_of}
use Rattle.gap_filling.proofs.formulas.+formula_measuring.Given as goal

abbrev pub decreases-measure_formula : goal.decreases-measure_formula
decreases-measure_formula l = 4 * parts (formula_of l.formula.now)

abbrev pub decreases-measure_between : goal.decreases-measure_between
decreases-measure_between l = 4 * parts (formula_of l.inner.now) + 1

abbrev pub decreases-measure_negated : goal.decreases-measure_negated
decreases-measure_negated l = 4 * parts (formula_of l.inner.now) + 2

abbrev pub decreases-measure_met : goal.decreases-measure_met
decreases-measure_met l = 4 * parts (formula_of l.inner.now) + 2

abbrev pub decreases-measure_quantified : goal.decreases-measure_quantified
decreases-measure_quantified l = 4 * parts (formula_of l.inner.now) + 2

abbrev pub decreases-measure_node : goal.decreases-measure_node
decreases-measure_node l = 4 * parts (formula_of l.children.now) + 2

abbrev pub decreases-measure_joined : goal.decreases-measure_joined
decreases-measure_joined l =
    4 * (parts (formula_of l.left.now) + parts (formula_of l.right.now)) + 2
