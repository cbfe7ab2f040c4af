use Rattle.std.proofs.Common.{◌+◌, ◌*◌}
use Rattle.model_formulas.specs.Parts.{parts}
use Rattle.formula_syntax.specs.Formulas.{formula_of}
use Rattle.formula_syntax.proofs.sorting.+fault_in.Given as goal

abbrev pub decreases-fault_in : goal.decreases-fault_in
decreases-fault_in l = 2 * parts (formula_of l.formula.now)

abbrev pub decreases-fault_in_two : goal.decreases-fault_in_two
decreases-fault_in_two l =
    2 * (parts (formula_of l.left.now) + parts (formula_of l.right.now)) + 1
