use Rattle.std.proofs.Common.{◌+◌, ◌*◌}
use Rattle.model_formulas.specs.Parts.{parts}
use Rattle.formula_syntax.specs.Formulas.{formula_of}
use Rattle.declared_sorts.proofs.formulas.+formula_sorting.Given as goal

abbrev pub decreases-set_formula : goal.decreases-set_formula
decreases-set_formula l = 3 * parts (formula_of l.formula.now) + 1

abbrev pub decreases-set_parts : goal.decreases-set_parts
decreases-set_parts l = 3 * parts (formula_of l.formula.now)

abbrev pub decreases-set_two : goal.decreases-set_two
decreases-set_two l =
    3 * (parts (formula_of l.left.now.value) + parts (formula_of l.right.now.value)) + 2

abbrev pub decreases-set_scope : goal.decreases-set_scope
decreases-set_scope l = 3 * parts (formula_of l.inner.now.value) + 2

abbrev pub decreases-set_met : goal.decreases-set_met
decreases-set_met l = 3 * parts (formula_of l.inner.now.value) + 2

abbrev pub decreases-set_node : goal.decreases-set_node
decreases-set_node l = 3 * parts (formula_of l.children.now.value) + 2
