use Rattle.std.proofs.Common.{◌+◌, ◌*◌}
use Rattle.model_formulas.specs.Parts.{parts}
use Rattle.formula_syntax.specs.Formulas.{formula_of}
use Rattle.wp_calc.proofs.putting.+put.Given as goal

abbrev pub decreases-put : goal.decreases-put
decreases-put l = 2 * parts (formula_of l.formula.now)

abbrev pub decreases-put_both : goal.decreases-put_both
decreases-put_both l =
    2 * (parts (formula_of l.left.now.value) + parts (formula_of l.right.now.value)) + 1
