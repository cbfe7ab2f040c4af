use Rattle.std.proofs.Common.{◌+◌, ◌*◌}
use Rattle.model_formulas.specs.Parts.{parts}
use Rattle.formula_syntax.specs.Formulas.{formula_of}
use Rattle.formula_syntax.proofs.free.+add_free.Given as goal

abbrev pub decreases-add_free : goal.decreases-add_free
decreases-add_free l = 2 * parts (formula_of l.formula.now)

abbrev pub decreases-add_both : goal.decreases-add_both
decreases-add_both l =
    2 * (parts (formula_of l.left.now) + parts (formula_of l.right.now)) + 1
