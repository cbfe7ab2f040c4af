use Rattle.std.proofs.Common.{◌+◌, ◌*◌}
use Rattle.model_formulas.specs.Parts.{parts}
use Rattle.formula_syntax.specs.Formulas.{formula_of}
use Rattle.formula_table.proofs.tables.Table.+formula_below.Given as goal

abbrev pub decreases-formula_below : goal.decreases-formula_below
decreases-formula_below l = 2 * parts (formula_of l.formula.now)

abbrev pub decreases-joining : goal.decreases-joining
decreases-joining l = 2 * (parts (formula_of l.left.now) + parts (formula_of l.right.now)) + 1

abbrev pub decreases-above : goal.decreases-above
decreases-above l = 2 * parts (formula_of l.part.now) + 1

abbrev pub decreases-meeting : goal.decreases-meeting
decreases-meeting l = 2 * parts (formula_of l.part.now) + 1

abbrev pub decreases-node : goal.decreases-node
decreases-node l = 2 * parts (formula_of l.part.now) + 1
