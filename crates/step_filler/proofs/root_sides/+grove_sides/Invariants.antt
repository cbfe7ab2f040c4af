-- The groves get smaller; of the same grove one function comes after the other.
use Rattle.std.proofs.Common.{◌+◌, ◌*◌}
use Rattle.model_formulas.specs.Parts.{parts}
use Rattle.formula_syntax.specs.Formulas.{formula_of}
use Rattle.step_filler.proofs.root_sides.+grove_sides.Given as goal

abbrev pub decreases-take_roots : goal.decreases-take_roots
decreases-take_roots l = 4 * parts (formula_of l.grove.now)

abbrev pub decreases-take_both_roots : goal.decreases-take_both_roots
decreases-take_both_roots l =
    4 * (parts (formula_of l.first.now) + parts (formula_of l.second.now)) + 3

abbrev pub decreases-take_each_root : goal.decreases-take_each_root
decreases-take_each_root l =
    4 * (parts (formula_of l.first.now) + parts (formula_of l.second.now)) + 2

abbrev pub decreases-take_second_root : goal.decreases-take_second_root
decreases-take_second_root l = 4 * parts (formula_of l.second.now) + 1
