use Rattle.std.proofs.Common.{◌+◌, ◌*◌}
use Rattle.model_formulas.specs.Parts.{parts}
use Rattle.formula_syntax.specs.Formulas.{formula_of}
use Rattle.formula_syntax.proofs.substituting.+substituted.Given as goal

abbrev pub decreases-substituted : goal.decreases-substituted
decreases-substituted l = 4 * parts (formula_of l.formula.now) + 1

abbrev pub decreases-structural : goal.decreases-structural
decreases-structural l = 4 * parts (formula_of l.formula.now)

abbrev pub decreases-boxed : goal.decreases-boxed
decreases-boxed l = 4 * parts (formula_of l.formula.now) + 2

abbrev pub decreases-quantified : goal.decreases-quantified
decreases-quantified l = 4 * parts (formula_of l.inner.now) + 3
