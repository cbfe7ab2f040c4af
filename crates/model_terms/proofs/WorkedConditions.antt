-- Worked rows: conditions whose parts are evaluated, whatever the parts before them are.
use Rattle.std.proofs.Common.{◌≡◌, refl, true, false, pos, Some, None}
use Rattle.std.specs.Prelude.{codes}
use Rattle.model_limits.specs.Limits.{number_limit, standard_limits}
use Rattle.model_shapes.specs.Sorts.{bool_sort, int_sort}
use Rattle.model_shapes.specs.Values.{int, boolean}
use Rattle.model_terms.specs.Terms.{Term, literal, variable, sum}
use Rattle.model_terms.specs.Stores.{ProgVar, named, as_var, Store, unset, holding}
use Rattle.model_terms.specs.Conditions.{Cond, cond_variable, cond_at_most, cond_or, truth_of, terms_of_cond, condition_sorted}
use Rattle.model_terms.specs.TermLimits.{terms_limit}

-- two variables
abbrev b : ProgVar
b = named (codes "b") bool_sort

abbrev k : ProgVar
k = named (codes "k") int_sort

-- {k + 1}
abbrev next_k : Term
next_k = sum (variable (as_var k)) (literal (int (pos 1)))

-- (b or {k + 1} <= 0)
abbrev either : Cond
either = cond_or (cond_variable b) (cond_at_most next_k (literal (int (pos 0))))

-- b holds and k is this number
abbrev with_k : Term → Store
with_k (literal value) = holding b (boolean true) (holding k value unset)
with_k other = unset

-- its parts have the right sorts
either_sorted : condition_sorted either ≡ true
either_sorted = refl

-- where b holds, it does, and no part passes a limit
either_true : truth_of (with_k (literal (int (pos 41)))) either ≡ true
either_true = refl

either_small : terms_limit standard_limits (with_k (literal (int (pos 41)))) (terms_of_cond either)
    ≡ None
either_small = refl

-- but with the greatest integer the second part passes one, though the first holds
either_large : terms_limit standard_limits (with_k (literal (int (pos 9223372036854775807))))
    (terms_of_cond either) ≡ Some number_limit
either_large = refl
