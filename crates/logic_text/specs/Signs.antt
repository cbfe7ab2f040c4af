-- Needn't be believed: it serves the contracts of private functions. The word or the sign of a
-- formula: it stands alone, before a variable that is bound, or between two parts.
use Rattle.std.specs.Prelude.{List}
use Rattle.model_formulas.specs.Formulas.{Named, truth, falsity, conjunction, disjunction, implication, existential, universal, equality, at_most, empty, bare_hole, concatenation, grove_sum, grove_sum_hole, application, hole_adjoint, context_adjoint}
use Rattle.model_text.specs.Lexemes.{Lexeme}
use Rattle.model_grammar.specs.Words.{the}
use Rattle.model_grammar.specs.TheoryWriting.{empty_sign, hole_sign, star_sign, at_sign, into_sign}

-- others have none
abbrev pub sign_of : Named → List Lexeme
sign_of truth = the "true"
sign_of falsity = the "false"
sign_of (empty k) = empty_sign k
sign_of (bare_hole k) = hole_sign k
sign_of (existential x p) = the "exists"
sign_of (universal x p) = the "forall"
sign_of (equality a b) = the "="
sign_of (at_most a b) = the "<="
sign_of (conjunction p q) = the "and"
sign_of (disjunction p q) = the "or"
sign_of (implication p q) = the "->"
sign_of (concatenation side p q) = star_sign side
sign_of (grove_sum p q) = the "+"
sign_of (grove_sum_hole p q) = the ".+"
sign_of (application k p q) = at_sign k
sign_of (hole_adjoint p q) = the "-o"
sign_of (context_adjoint k p q) = into_sign k
sign_of p = the ""
