-- Needn't be believed: the program's promise doesn't speak of it. A term that takes the place of
-- another one, as they stand below no binder.
use Rattle.model_terms.specs.Terms as model
use Rattle.model_formulas.specs.Nameless.{naming}
use Rattle.dom_terms.specs.Terms.{term_of}
use Rattle.dom_terms.specs.declared.terms.Term.{Term}
use Rattle.std.specs.Prelude.{[]}

-- the term, as a formula has it below no binder
abbrev pub plainly : Term → model.Term
plainly term = model.term_with (naming []) (term_of term)
