-- Needn't be believed: the program's promise doesn't speak of it. The free variables of a formula
-- in order: what stands in it from left to right, without what a quantifier binds, each once. A law
-- says that they are the free ones of the nameless formula.
use Rattle.std.specs.Prelude.{Bool, not, List, [], ◌∷◌, ◌++◌}
use Rattle.std.specs.List.{filter, list_any}
use Rattle.model_terms.specs.VariableTests.{same_var}
use Rattle.model_terms.specs.Variables.{Var}
pub use Rattle.model_terms.specs.TermSorts.{variables_of_term}
use Rattle.model_formulas.specs.Formulas.{Named}
use Rattle.model_formulas.specs.Substitution.{gathered}

-- the variable is one of the list
abbrev pub is_among : Var → List Var → Bool
is_among x xs = list_any (same_var x) xs

-- the list without this variable
abbrev pub without : Var → List Var → List Var
without x xs = filter (λ y. not (same_var y x)) xs

-- the free occurrences of variables, from left to right
abbrev pub occurrences : Named → List Var
occurrences = gathered [] ◌++◌ variables_of_term without

-- each of the list once, at its first place
abbrev pub each_once : List Var → List Var
each_once [] = []
each_once (x ∷ xs) = x ∷ without x (each_once xs)

-- the free variables, each once, in the order of their first occurrences
abbrev pub free_in_order : Named → List Var
free_in_order p = each_once (occurrences p)
