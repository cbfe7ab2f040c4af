-- Needn't be believed: the program's promise doesn't speak of it. The comparisons of the
-- definitions that those of the program stand for, and whether their variables cancel.
use Rattle.std.specs.Prelude.{◌&&◌, List, Bool}
use Rattle.std.specs.List.{list_all}
use Rattle.dom_terms.specs.Terms.{term_of}
use Rattle.computed_rules.specs.Forms.{cancels_in}
use Rattle.computed_rules.specs.Linear as model
use Rattle.computed_rules.specs.declared.comparisons.Comparison.{Comparison}
use Rattle.computed_rules.specs.declared.comparisons.Test.{Test}
use Rattle.computed_rules.specs.declared.comparisons.Test.TheVariants as t
use Rattle.computed_rules.specs.declared.forms.LinearForm.{LinearForm}

-- the comparison
abbrev pub comparison_of : Comparison → model.Comparison
comparison_of comparison = record {
  number = comparison.number;
  is_order = comparison.is_order;
  left = term_of comparison.left.now;
  right = term_of comparison.right.now;
}

-- no variable of them counts
abbrev pub cancel_in : LinearForm → List model.Comparison → Bool
cancel_in form cs = list_all (λ c. cancels_in form c.right && cancels_in form c.left) cs

-- the test
abbrev pub test_of : Test → model.Comparison → Bool
test_of t.Integral = model.is_integral
test_of t.Fair = model.is_fair
test_of t.Equation = model.is_equation
