use Rattle.std.proofs.Common.{◌+◌, ◌*◌}
use Rattle.dom_terms.specs.Terms.{term_of}
use Rattle.logic_text.proofs.TermSizes.{terms_in}
use Rattle.gap_filling.proofs.terms.+term_measuring.Given as goal

abbrev pub decreases-measure_term : goal.decreases-measure_term
decreases-measure_term l = 2 * terms_in (term_of l.term.now)

abbrev pub decreases-measure_braced : goal.decreases-measure_braced
decreases-measure_braced l =
    2 * (terms_in (term_of l.left.now) + terms_in (term_of l.right.now)) + 1
