-- Conditions of commands, their truth in a store, their terms and their sorts. All are the
-- language's own.
use Rattle.std.specs.Prelude.{int_le, List, [], ◌∷◌, ◌++◌, Bool, true, false, not, ◌&&◌, ◌||◌}
use Rattle.model_shapes.specs.Sorts.{int_sort, bool_sort}
use Rattle.model_shapes.specs.Values.{Value, boolean}
use Rattle.model_shapes.specs.Tests.{same_value, same_value_sort}
use Rattle.model_terms.specs.Terms.{Term, variable}
use Rattle.model_terms.specs.TermSorts.{evaluates, evaluate_alike}
use Rattle.model_terms.specs.Stores.{ProgVar, as_var, sort_of, Store, value_in, value_of, int_in}

-- true, false, a bool variable, E = F, E <= F, (not B), (B and C), (B or C)
pub data Cond : Type 0 where
  cond_true cond_false : Cond
  cond_variable : ProgVar → Cond
  cond_equal cond_at_most : Term → Term → Cond
  cond_not : Cond → Cond
  cond_and cond_or : Cond → Cond → Cond

-- the truth value that a value is, and no where it is none
abbrev pub truth_in : Value → Bool
truth_in (boolean b) = b
truth_in v = false

-- the truth of a condition
abbrev pub truth_of : Store → Cond → Bool
truth_of store cond_true = true
truth_of store cond_false = false
truth_of store (cond_variable x) = truth_in (value_in store x)
truth_of store (cond_equal a b) = same_value (value_of store a) (value_of store b)
truth_of store (cond_at_most a b) = int_le (int_in (value_of store a)) (int_in (value_of store b))
truth_of store (cond_not c) = not (truth_of store c)
truth_of store (cond_and c d) = truth_of store c && truth_of store d
truth_of store (cond_or c d) = truth_of store c || truth_of store d

-- the terms of a condition, from left to right
abbrev pub terms_of_cond : Cond → List Term
terms_of_cond (cond_variable x) = variable (as_var x) ∷ []
terms_of_cond (cond_equal a b) = a ∷ b ∷ []
terms_of_cond (cond_at_most a b) = a ∷ b ∷ []
terms_of_cond (cond_not c) = terms_of_cond c
terms_of_cond (cond_and c d) = terms_of_cond c ++ terms_of_cond d
terms_of_cond (cond_or c d) = terms_of_cond c ++ terms_of_cond d
terms_of_cond c = []

-- a condition of a command: its parts have the right sorts, and no logic variables
abbrev pub condition_sorted : Cond → Bool
condition_sorted (cond_variable x) = same_value_sort (sort_of x) bool_sort
condition_sorted (cond_equal a b) = evaluate_alike a b
condition_sorted (cond_at_most a b) = evaluates int_sort a && evaluates int_sort b
condition_sorted (cond_not c) = condition_sorted c
condition_sorted (cond_and c d) = condition_sorted c && condition_sorted d
condition_sorted (cond_or c d) = condition_sorted c && condition_sorted d
condition_sorted c = true
