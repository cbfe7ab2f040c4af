-- Needn't be believed: what closing, replacing and naming come to by a decision whether two
-- variables are the same. Proofs by cases of that decision speak of these.
use Rattle.std.specs.Prelude.{◌≡◌, zero}
use Rattle.model_shapes.specs.Trees.{decided}
use Rattle.model_terms.specs.Variables.{Var, bound, var_sort}
use Rattle.model_terms.specs.Terms.{Term, variable, raised, raised_var}

-- a variable that a new binder binds where it is the binder's, and every other one
abbrev pub closing_at : {x y : Var} → Dec (y ≡ x) → Term
closing_at {x} {y} d = decided d (variable (bound zero (var_sort x))) (raised (variable y))

-- a term for one variable, and every other variable for itself
abbrev pub replacing_at : {x y : Var} → Term → Dec (y ≡ x) → Term
replacing_at {x} {y} t d = decided d t (variable y)

-- a variable that the nearest binder binds, or one that is bound or free further out
abbrev pub name_or : {x y : Var} → Var → Dec (y ≡ x) → Var
name_or {x} {y} outside d = decided d (bound zero (var_sort x)) (raised_var outside)
