-- The forests get smaller; of the same forest one function comes after the other.
use Rattle.std.proofs.Common.{◌+◌, ◌*◌}
use Rattle.model_formulas.specs.Parts.{parts}
use Rattle.formula_syntax.specs.Formulas.{formula_of}
use Rattle.step_filler.proofs.sides.+sides.Given as goal

abbrev pub decreases-write_tree : goal.decreases-write_tree
decreases-write_tree l = 4 * parts (formula_of l.tree.now)

abbrev pub decreases-write_forest : goal.decreases-write_forest
decreases-write_forest l = 4 * parts (formula_of l.forest.now) + 1

abbrev pub decreases-take_parts : goal.decreases-take_parts
decreases-take_parts l = 4 * parts (formula_of l.forest.now)

abbrev pub decreases-take_tree : goal.decreases-take_tree
decreases-take_tree l = 4 * parts (formula_of l.tree.now) + 1

abbrev pub decreases-take_both : goal.decreases-take_both
decreases-take_both l =
    4 * (parts (formula_of l.first.now) + parts (formula_of l.second.now)) + 3

abbrev pub decreases-take_each : goal.decreases-take_each
decreases-take_each l =
    4 * (parts (formula_of l.first.now) + parts (formula_of l.second.now)) + 2

abbrev pub decreases-take_second : goal.decreases-take_second
decreases-take_second l = 4 * parts (formula_of l.second.now) + 1
