-- The sorts of terms: those that can be written, and those that a command may evaluate. They are
-- the language's own.
use Rattle.std.specs.Prelude.{Bool, true, false, ◌&&◌, List, [], ◌∷◌, ◌++◌}
use Rattle.std.specs.List.{list_all, list_any}
use Rattle.model_shapes.specs.Tests.{same_sort, same_value_sort}
use Rattle.model_shapes.specs.Sorts.{value, ValueSort, node_sort, list_sort, int_sort, str_sort, bool_sort}
use Rattle.model_shapes.specs.Values.{Value, node_number, list_number, value_sort}
use Rattle.model_terms.specs.Variables.{Var, prog, logic, bound}
use Rattle.model_terms.specs.Terms.{Term, literal, variable, sum, difference, appended, gathered_in}

-- the values that are literals: no number of a node or a list can be written
abbrev pub is_literal : Value → Bool
is_literal (node_number n) = false
is_literal (list_number n) = false
is_literal v = true

-- the term can be written and has the value sort; no bound variable can be written
abbrev pub has_sort : ValueSort → Term → Bool
has_sort s (literal v) = is_literal v && same_value_sort s (value_sort v)
has_sort s (variable (prog name u)) = same_value_sort s u
has_sort s (variable (logic name u)) = same_sort (value s) u
has_sort s (variable (bound i u)) = false
has_sort s (sum a b) =
    same_value_sort s int_sort && (has_sort int_sort a && has_sort int_sort b)
has_sort s (difference a b) =
    same_value_sort s int_sort && (has_sort int_sort a && has_sort int_sort b)
has_sort s (appended a b) =
    same_value_sort s str_sort && (has_sort str_sort a && has_sort str_sort b)

-- both terms have the sort
abbrev pub both_have : ValueSort → Term → Term → Bool
both_have s a b = has_sort s a && has_sort s b

-- the variables of a term
abbrev pub variables_of_term : Term → List Var
variables_of_term = gathered_in [] ◌++◌ (λ x. x ∷ [])

-- a program variable
abbrev pub is_program : Var → Bool
is_program (prog name s) = true
is_program x = false

-- no logic variable stands in the term
abbrev pub is_plain : Term → Bool
is_plain term = list_all is_program (variables_of_term term)

-- a term that a command may evaluate: it has the sort, and no logic variable
abbrev pub evaluates : ValueSort → Term → Bool
evaluates s term = has_sort s term && is_plain term

-- two terms that a command may compare: both of one value sort, and without logic variables
abbrev pub evaluate_alike : Term → Term → Bool
evaluate_alike a b =
    list_any (λ s. evaluates s a && evaluates s b)
    (node_sort ∷ list_sort ∷ int_sort ∷ str_sort ∷ bool_sort ∷ [])
