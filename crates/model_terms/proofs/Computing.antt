-- What passes the tests of the sorts of terms and conditions is so related.
use Rattle.std.proofs.Common.{◌≡◌, List, [], ◌∷◌, ◌++◌, Bool, true, ◌&&◌, sym, subst, ◌∙◌}
use Rattle.std.specs.List.{list_all}
use Rattle.std.proofs.lemmas.List.Folds.{list_all-append, Any-from_list_any}
use Rattle.model_shapes.specs.Sorts.{ValueSort, node_sort, list_sort, int_sort, str_sort, bool_sort}
use Rattle.model_shapes.specs.Tests.{same_value_sort}
use Rattle.model_shapes.specs.Values.{Value, null, nolist, node_number, list_number, int, str, boolean, FitsValue, value_sort}
use Rattle.model_shapes.proofs.Tests.{same_value_sort-is}
use Rattle.model_shapes.proofs.Truth.{false≢true, both_true}
use Rattle.model_terms.specs.Variables.{prog, logic, bound}
use Rattle.model_terms.specs.Terms.{Term, literal, variable, sum, difference, appended}
use Rattle.model_terms.specs.TermSorts.{is_literal, has_sort, variables_of_term, is_program, is_plain, evaluates}
use Rattle.model_terms.specs.Stores.{sort_of}
use Rattle.model_terms.specs.Conditions.{Cond, cond_true, cond_false, cond_variable, cond_equal, cond_at_most, cond_not, cond_and, cond_or, condition_sorted}
use Rattle.model_terms.specs.Computing.{Computes, Tests}

-- a test of each member of two lists
pub all-append : {A : Type 0} (p : A → Bool) (xs ys : List A) → list_all p (xs ++ ys) ≡ true
    → (list_all p xs ≡ true) × (list_all p ys ≡ true)
all-append p xs ys e =
    both_true (list_all p xs) (list_all p ys) (sym (list_all-append p xs ys) ∙ e)

-- a literal is of its own sort
pub literal-fits : (v : Value) → is_literal v ≡ true → FitsValue (value_sort v) v
literal-fits null e = tt
literal-fits nolist e = tt
literal-fits (int z) e = tt
literal-fits (str s) e = tt
literal-fits (boolean b) e = tt
literal-fits (node_number n) e = false≢true e
literal-fits (list_number n) e = false≢true e

-- the parts of a sum, a difference or of two texts
parts-compute : (a b : Term) (s u : ValueSort)
    → (has_sort u a ≡ true → is_plain a ≡ true → Computes u a)
    → (has_sort u b ≡ true → is_plain b ≡ true → Computes u b)
    → (same_value_sort s u && (has_sort u a && has_sort u b)) ≡ true
    → list_all is_program (variables_of_term a ++ variables_of_term b) ≡ true
    → (s ≡ u) × Computes u a × Computes u b
parts-compute a b s u left right h p =
    let g : (same_value_sort s u ≡ true) × ((has_sort u a && has_sort u b) ≡ true) =
    both_true (same_value_sort s u) (has_sort u a && has_sort u b) h in
    let k : (has_sort u a ≡ true) × (has_sort u b ≡ true) =
    both_true (has_sort u a) (has_sort u b) g.1 in
    let q : (is_plain a ≡ true) × (is_plain b ≡ true) =
    all-append is_program (variables_of_term a) (variables_of_term b) p in
    (same_value_sort-is s u g.0, left k.0 q.0, right k.1 q.1)

-- a well-sorted term without logic variables computes
computes : (t : Term) (s : ValueSort) → has_sort s t ≡ true → is_plain t ≡ true → Computes s t
computes (literal v) s h p =
    let g : (is_literal v ≡ true) × (same_value_sort s (value_sort v) ≡ true) =
    both_true (is_literal v) (same_value_sort s (value_sort v)) h in
    subst (λ z. FitsValue z v) (sym (same_value_sort-is s (value_sort v) g.1)) (literal-fits v g.0)
computes (variable (prog x u)) s h p = sym (same_value_sort-is s u h)
computes (variable (logic x u)) s h p = false≢true p
computes (variable (bound i u)) s h p = false≢true p
computes (sum a b) s h p =
    parts-compute a b s int_sort (computes a int_sort) (computes b int_sort) h p
computes (difference a b) s h p =
    parts-compute a b s int_sort (computes a int_sort) (computes b int_sort) h p
computes (appended a b) s h p =
    parts-compute a b s str_sort (computes a str_sort) (computes b str_sort) h p

-- a term that a command may evaluate
pub evaluates-computes : (s : ValueSort) (t : Term) → evaluates s t ≡ true → Computes s t
evaluates-computes s t e =
    let h : (has_sort s t ≡ true) × (is_plain t ≡ true) = both_true (has_sort s t) (is_plain t) e in
    computes t s h.0 h.1

-- two of them
pub two-compute : (s u : ValueSort) (a b : Term) → (evaluates s a && evaluates u b) ≡ true
    → Computes s a × Computes u b
two-compute s u a b e =
    let h : (evaluates s a ≡ true) × (evaluates u b ≡ true) =
    both_true (evaluates s a) (evaluates u b) e in
    (evaluates-computes s a h.0, evaluates-computes u b h.1)

-- a condition whose parts have the right sorts
pub condition-tests : (c : Cond) → condition_sorted c ≡ true → Tests c
condition-tests cond_true e = tt
condition-tests cond_false e = tt
condition-tests (cond_variable x) e = same_value_sort-is (sort_of x) bool_sort e
condition-tests (cond_equal a b) e =
    let found = Any-from_list_any (λ s. evaluates s a && evaluates s b)
    (node_sort ∷ list_sort ∷ int_sort ∷ str_sort ∷ bool_sort ∷ []) e in
    let parts = two-compute found.1 found.1 a b found.4 in
    (found.1, parts.0, parts.1)
condition-tests (cond_at_most a b) e = two-compute int_sort int_sort a b e
condition-tests (cond_not c) e = condition-tests c e
condition-tests (cond_and c d) e =
    let h : (condition_sorted c ≡ true) × (condition_sorted d ≡ true) =
    both_true (condition_sorted c) (condition_sorted d) e in
    (condition-tests c h.0, condition-tests d h.1)
condition-tests (cond_or c d) e =
    let h : (condition_sorted c ≡ true) × (condition_sorted d ≡ true) =
    both_true (condition_sorted c) (condition_sorted d) e in
    (condition-tests c h.0, condition-tests d h.1)
