use Rattle.std.proofs.Common.{◌+◌, ◌*◌}
use Rattle.model_formulas.specs.Parts.{parts}
use Rattle.formula_syntax.specs.Formulas.{formula_of}
use Rattle.dom_watch.proofs.flags.+next_part.Given as goal

abbrev pub decreases-next_part : goal.decreases-next_part
decreases-next_part l = 2 * parts (formula_of l.formula.now)

abbrev pub decreases-next_two : goal.decreases-next_two
decreases-next_two l =
    2 * (parts (formula_of l.left.now) + parts (formula_of l.right.now)) + 1
