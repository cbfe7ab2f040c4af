-- Needn't be believed: it serves the contracts of private functions. What becomes of a term when a
-- new logic variable is put for a program variable.
use Rattle.model_shapes.specs.Values.{Name}
use Rattle.model_terms.specs.Terms.{Term, variable, term_with}
use Rattle.model_terms.specs.Stores.{ProgVar, as_var}
use Rattle.model_formulas.specs.Substitution.{replacing}
use Rattle.model_weakest.specs.Rows.{value_for}

abbrev pub put_term : ProgVar → Name → Term → Term
put_term x v = term_with (replacing (as_var x) (variable (value_for x v)))
