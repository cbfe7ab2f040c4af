use Rattle.std.proofs.Common.{◌+◌, ◌*◌}
use Rattle.dom_terms.specs.Terms.{term_of}
use Rattle.logic_text.proofs.TermSizes.{terms_in}
use Rattle.logic_text.proofs.term_writing.+term_writing.Given as goal

abbrev pub decreases-push_term : goal.decreases-push_term
decreases-push_term l = 2 * terms_in (term_of l.term.now)

abbrev pub decreases-push_braced : goal.decreases-push_braced
decreases-push_braced l =
    2 * (terms_in (term_of l.left.now) + terms_in (term_of l.right.now)) + 1
