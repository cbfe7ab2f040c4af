use Rattle.std.proofs.Common.{◌≡◌, map, drop}
use Rattle.dom_terms.specs.Terms.{term_of}
use Rattle.theory_syntax.specs.SameCommands.{same_terms}
use Rattle.theory_syntax.proofs.same.same_terms.Given as goal

abbrev pub invariant-loop-term : goal.invariant-loop-term
invariant-loop-term l =
    same_terms (map term_of l.left) (map term_of l.right)
    ≡ same_terms (map term_of (drop l.term-index l.term-items)) (map term_of l.others)
