use Rattle.std.proofs.Common.{◌+◌, ◌*◌}
use Rattle.logic_text.proofs.formula_reading.+part.Given as goal

-- the nesting that is left, and at one depth the order of the calls
abbrev pub decreases-fill : goal.decreases-fill
decreases-fill l = 8 * l.depth

abbrev pub decreases-part : goal.decreases-part
decreases-part l = 8 * l.depth + 1

abbrev pub decreases-quantified : goal.decreases-quantified
decreases-quantified l = 8 * l.depth + 2

abbrev pub decreases-connected : goal.decreases-connected
decreases-connected l = 8 * l.depth + 2

abbrev pub decreases-met : goal.decreases-met
decreases-met l = 8 * l.depth + 2

abbrev pub decreases-connected_or_is : goal.decreases-connected_or_is
decreases-connected_or_is l = 8 * l.depth + 3

abbrev pub decreases-bracket : goal.decreases-bracket
decreases-bracket l = 8 * l.depth + 4

abbrev pub decreases-negation : goal.decreases-negation
decreases-negation l = 8 * l.depth + 2

abbrev pub decreases-node : goal.decreases-node
decreases-node l = 8 * l.depth + 2

abbrev pub decreases-compared : goal.decreases-compared
decreases-compared l = 8 * l.depth + 3

abbrev pub decreases-leaf_formula : goal.decreases-leaf_formula
decreases-leaf_formula l = 8 * l.depth + 4

abbrev pub decreases-tree : goal.decreases-tree
decreases-tree l = 8 * l.depth + 2

abbrev pub decreases-root : goal.decreases-root
decreases-root l = 8 * l.depth + 2

abbrev pub decreases-comparison : goal.decreases-comparison
decreases-comparison l = 8 * l.depth + 4

abbrev pub decreases-word_or_comparison : goal.decreases-word_or_comparison
decreases-word_or_comparison l = 8 * l.depth + 5

abbrev pub decreases-part_from : goal.decreases-part_from
decreases-part_from l = 8 * l.depth + 6
