-- The patterns get smaller; of one pattern the groups come behind the whole walk.
use Rattle.std.proofs.Common.{◌+◌, ◌*◌}
use Rattle.row_walks.specs.Forms.{forms_of}
use Rattle.row_walks.proofs.formulas.+walk.Given as goal

abbrev pub decreases-walk_formula : goal.decreases-walk_formula
decreases-walk_formula l = 2 * forms_of l.pattern.now + 1

abbrev pub decreases-walk_logical : goal.decreases-walk_logical
decreases-walk_logical l = 2 * forms_of l.pattern.now

abbrev pub decreases-walk_shaped : goal.decreases-walk_shaped
decreases-walk_shaped l = 2 * forms_of l.pattern.now
