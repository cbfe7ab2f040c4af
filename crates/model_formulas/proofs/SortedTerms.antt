-- A well-sorted term stands for a thing of its sort.
use Rattle.std.proofs.Common.{◌≡◌, sym, refl, subst, true, ◌&&◌}
use Rattle.model_shapes.specs.Tests.{same_value_sort}
use Rattle.model_shapes.specs.Sorts.{value, ValueSort, int_sort, str_sort, is_sort}
use Rattle.model_shapes.specs.Values.{FitsValue, value_sort}
use Rattle.model_shapes.specs.Things.{Fits}
use Rattle.model_shapes.proofs.Truth.{false≢true, both_true}
use Rattle.model_terms.specs.Variables.{prog, logic, bound}
use Rattle.model_shapes.proofs.Tests.{same_value_sort-is, same_sort-is}
use Rattle.model_terms.specs.Terms.{Term, literal, variable, sum, difference, appended}
use Rattle.model_terms.proofs.Computing.{literal-fits}
use Rattle.model_formulas.specs.WellSorted.{has_sort, is_literal}
use Rattle.model_formulas.specs.Satisfaction.{Environment, Proper, meaning_of}

-- each term of the sort stands for a thing of the sort
pub term-fits : (t : Term) (s : ValueSort) (e : Environment) → Proper e → has_sort s t ≡ true
    → Fits (value s) (meaning_of e t)
term-fits (literal v) s e pr h =
    let g : (is_literal v ≡ true) × (same_value_sort s (value_sort v) ≡ true) =
    both_true (is_literal v) (same_value_sort s (value_sort v)) h in
    subst (λ z. FitsValue z v) (sym (same_value_sort-is s (value_sort v) g.1)) (literal-fits v g.0)
term-fits (variable (prog x u)) s e pr h =
    subst (λ z. Fits (value z) (e (prog x u))) (sym (same_value_sort-is s u h)) (pr.programs x u)
term-fits (variable (logic x u)) s e pr h =
    let q : value s ≡ u = same_sort-is (value s) u h in
    subst (λ z. Fits z (e (logic x u))) (sym q)
    (pr.logics x u (subst (λ z. is_sort z ≡ true) q refl))
term-fits (variable (bound i u)) s e pr h = false≢true h
term-fits (sum a b) s e pr h =
    subst (λ z. Fits (value z) (meaning_of e (sum a b)))
    (sym (same_value_sort-is s int_sort
    (both_true (same_value_sort s int_sort) (has_sort int_sort a && has_sort int_sort b) h).0)) tt
term-fits (difference a b) s e pr h =
    subst (λ z. Fits (value z) (meaning_of e (difference a b)))
    (sym (same_value_sort-is s int_sort
    (both_true (same_value_sort s int_sort) (has_sort int_sort a && has_sort int_sort b) h).0)) tt
term-fits (appended a b) s e pr h =
    subst (λ z. Fits (value z) (meaning_of e (appended a b)))
    (sym (same_value_sort-is s str_sort
    (both_true (same_value_sort s str_sort) (has_sort str_sort a && has_sort str_sort b) h).0)) tt
