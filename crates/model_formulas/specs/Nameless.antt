-- The nameless form of a formula, by a walk with the variables of the binders passed, the nearest
-- first. Two formulas are the same where their nameless forms are equal: that is, where they are
-- equal up to the names of bound variables.
use Rattle.std.specs.Prelude.{◌≡◌, zero, List, [], ◌∷◌}
use Rattle.model_shapes.specs.Trees.{decided}
use Rattle.model_terms.specs.Variables.{Var, bound, var_sort}
use Rattle.model_terms.specs.VariableTests.{var_eq}
use Rattle.model_terms.specs.Terms.{variable, raised_var, Substitution, term_with}
use Rattle.model_formulas.specs.Formulas.{Named, Formula}
use Rattle.model_formulas.specs.Changes.{changed}

-- What a variable becomes below binders of these variables: bound by the nearest that has it, or
-- the same, bound or free, further out.
abbrev pub names : List Var → Var → Var
names [] y = y
names (x ∷ xs) y = decided (var_eq y x) (bound zero (var_sort x)) (raised_var (names xs y))

-- the same as a substitution
abbrev pub naming : List Var → Substitution
naming xs y = variable (names xs y)

-- the nameless form below binders of these variables
abbrev pub walked : List Var → Named → Formula
walked = changed (λ xs. var_sort) (λ x xs. x ∷ xs) (λ xs. term_with (naming xs)) (λ a s. s)

-- the nameless form: no binder passed
abbrev pub nameless : Named → Formula
nameless p = walked [] p

-- equal up to the names of bound variables
abbrev pub SameFormula : Named → Named → Type 0
SameFormula p q = nameless p ≡ nameless q
