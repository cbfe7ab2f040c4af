-- Needn't be believed: the sorts of terms and conditions of commands as relations, which proofs
-- take apart. A law says that what passes the tests is so related.
use Rattle.std.specs.Prelude.{◌≡◌}
use Rattle.model_shapes.specs.Sorts.{ValueSort, int_sort, str_sort, bool_sort}
use Rattle.model_shapes.specs.Values.{FitsValue}
use Rattle.model_terms.specs.Variables.{prog, logic, bound}
use Rattle.model_terms.specs.Terms.{Term, literal, variable, sum, difference, appended}
use Rattle.model_terms.specs.Stores.{sort_of}
use Rattle.model_terms.specs.Conditions.{Cond, cond_true, cond_false, cond_variable, cond_equal, cond_at_most, cond_not, cond_and, cond_or}

-- a term of a command: well sorted, of this sort, and without logic variables
abbrev pub Computes : ValueSort → Term → Type 0
Computes s (literal v) = FitsValue s v
Computes s (variable (prog x u)) = u ≡ s
Computes s (variable (logic x u)) = ⊥
Computes s (variable (bound i u)) = ⊥
Computes s (sum a b) = (s ≡ int_sort) × Computes int_sort a × Computes int_sort b
Computes s (difference a b) = (s ≡ int_sort) × Computes int_sort a × Computes int_sort b
Computes s (appended a b) = (s ≡ str_sort) × Computes str_sort a × Computes str_sort b

-- a condition of a command: well sorted and without logic variables
abbrev pub Tests : Cond → Type 0
Tests cond_true = Unit
Tests cond_false = Unit
Tests (cond_variable x) = sort_of x ≡ bool_sort
Tests (cond_equal a b) = (s : ValueSort) × Computes s a × Computes s b
Tests (cond_at_most a b) = Computes int_sort a × Computes int_sort b
Tests (cond_not c) = Tests c
Tests (cond_and c d) = Tests c × Tests d
Tests (cond_or c d) = Tests c × Tests d
