use Rattle.std.proofs.Common.{◌+◌, ◌-◌, length}
use Rattle.formula_syntax.proofs.renaming.renamed.Given as goal

abbrev pub decreases-letters : goal.decreases-letters
decreases-letters l = l.reach + 1 - length l.name
