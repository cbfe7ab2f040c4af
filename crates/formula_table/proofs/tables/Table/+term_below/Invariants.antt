use Rattle.std.proofs.Common.{◌+◌, ◌*◌}
use Rattle.dom_terms.specs.Terms.{term_of}
use Rattle.formula_table.proofs.Named.{subterms}
use Rattle.formula_table.proofs.tables.Table.+term_below.Given as goal

abbrev pub decreases-term_below : goal.decreases-term_below
decreases-term_below l = 2 * subterms (term_of l.term.now)

abbrev pub decreases-terms_below : goal.decreases-terms_below
decreases-terms_below l =
    2 * (subterms (term_of l.left.now) + subterms (term_of l.right.now)) + 1
