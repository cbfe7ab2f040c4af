-- The formula of a condition, as the rules for choice and loops take it, and as `cond_formula`
-- answers it.
use Rattle.std.specs.Prelude.{true}
use Rattle.model_shapes.specs.Values.{boolean}
use Rattle.model_terms.specs.Terms.{literal, variable}
use Rattle.model_terms.specs.Stores.{as_var}
use Rattle.model_terms.specs.Conditions.{Cond, cond_true, cond_false, cond_variable, cond_equal, cond_at_most, cond_not, cond_and, cond_or}
use Rattle.model_formulas.specs.Formulas.{Formula, truth, falsity, conjunction, disjunction, negation, equality, at_most}

-- the formula of a condition: a bool variable becomes its equation with yes
abbrev pub formula_of : Cond → Formula
formula_of cond_true = truth
formula_of cond_false = falsity
formula_of (cond_variable x) = equality (variable (as_var x)) (literal (boolean true))
formula_of (cond_equal a b) = equality a b
formula_of (cond_at_most a b) = at_most a b
formula_of (cond_not c) = negation (formula_of c)
formula_of (cond_and c d) = conjunction (formula_of c) (formula_of d)
formula_of (cond_or c d) = disjunction (formula_of c) (formula_of d)
