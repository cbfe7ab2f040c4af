-- What the test of a step's command gives: parts of the right sorts and number, and calls none of
-- whose results stands in an argument.
use Rattle.std.proofs.Common.{◌⊎◌, ◌≡◌, ℕ, List, [], ◌∷◌, true, not, inl, inr, subst}
use Rattle.std.specs.List.{list_all, flat_map}
use Rattle.model_shapes.proofs.Truth.{both_true}
use Rattle.model_terms.specs.Terms.{Term, literal, variable, sum, difference, appended, InTerm}
use Rattle.model_terms.specs.TermSorts.{variables_of_term}
use Rattle.model_terms.specs.VariableTests.{same_var, same_var-refl}
use Rattle.model_terms.specs.Variables.{Var}
use Rattle.model_terms.specs.Stores.{ProgVar, as_var, same_name}
use Rattle.model_commands.specs.Commands.{Command, call, Among}
use Rattle.model_commands.specs.CommandParts.{commands_in}
use Rattle.model_commands.specs.SortTests.{is_sorted, stands_in, distinct_by, results_apart}
use Rattle.model_commands.specs.Theories.{Procedures}
use Rattle.model_commands.proofs.Sorting.{not-both, left-true}
use Rattle.model_files.proofs.FileTests.{stands-left, stands-right}
use Rattle.triple_laws.specs.BySteps.{step_fits}

-- its parts have the right sorts and number
pub step-sorted : (ps : Procedures) (c : Command) → step_fits ps c ≡ true → is_sorted ps c ≡ true
step-sorted ps c e = (both_true (is_sorted ps c) (list_all results_apart (commands_in c)) e).0

-- the variable stands in one of the terms
abbrev pub InTerms : Var → List Term → Type 0
InTerms x [] = ⊥
InTerms x (t ∷ ts) = InTerm x t ⊎ InTerms x ts

-- what stands in a term is one of its variables
stands-itself : (y : Var) (x : ProgVar) → as_var x ≡ y → stands_in (y ∷ []) x ≡ true
stands-itself y x e =
    left-true (same_var (as_var x) y) _
    (subst (λ z. same_var (as_var x) z ≡ true) e (same_var-refl (as_var x)))

stands-term : (t : Term) (x : ProgVar) → InTerm (as_var x) t
    → stands_in (variables_of_term t) x ≡ true
stands-term (literal v) x m = absurd m
stands-term (variable y) x m = stands-itself y x m
stands-term (sum a b) x (inl m) =
    stands-left (variables_of_term a) (variables_of_term b) x (stands-term a x m)
stands-term (sum a b) x (inr m) =
    stands-right (variables_of_term a) (variables_of_term b) x (stands-term b x m)
stands-term (difference a b) x (inl m) =
    stands-left (variables_of_term a) (variables_of_term b) x (stands-term a x m)
stands-term (difference a b) x (inr m) =
    stands-right (variables_of_term a) (variables_of_term b) x (stands-term b x m)
stands-term (appended a b) x (inl m) =
    stands-left (variables_of_term a) (variables_of_term b) x (stands-term a x m)
stands-term (appended a b) x (inr m) =
    stands-right (variables_of_term a) (variables_of_term b) x (stands-term b x m)

stands-terms : (ts : List Term) (x : ProgVar) → InTerms (as_var x) ts
    → stands_in (flat_map variables_of_term ts) x ≡ true
stands-terms [] x m = absurd m
stands-terms (t ∷ ts) x (inl m) =
    stands-left (variables_of_term t) (flat_map variables_of_term ts) x (stands-term t x m)
stands-terms (t ∷ ts) x (inr m) =
    stands-right (variables_of_term t) (flat_map variables_of_term ts) x (stands-terms ts x m)

-- no result stands in an argument
module _ (es : List Term) where
  abbrev AreApart : List ProgVar → Type 0
  AreApart rs = list_all (λ x. not (stands_in (flat_map variables_of_term es) x)) rs ≡ true

  apart : (rs : List ProgVar) → AreApart rs → (x : ProgVar) → Among rs x → InTerms (as_var x) es
      → ⊥
  apart [] e x m i = m
  apart (r ∷ rs) e x m i =
      let h = both_true (not (stands_in (flat_map variables_of_term es) r)) _ e in
      at m h.0 (λ a. apart rs h.1 x a i)
    where
      at : Among (r ∷ rs) x → not (stands_in (flat_map variables_of_term es) r) ≡ true
          → (Among rs x → ⊥) → ⊥
      at (inl q) n later =
          not-both (stands_in (flat_map variables_of_term es) r) n
          (subst (λ z. stands_in (flat_map variables_of_term es) z ≡ true) q (stands-terms es x i))
      at (inr a) n later = later a

pub call-apart : (ps : Procedures) (rs : List ProgVar) (name : List ℕ) (es : List Term)
    → step_fits ps (call rs name es) ≡ true
    → (x : ProgVar) → Among rs x → InTerms (as_var x) es → ⊥
call-apart ps rs name es e =
    apart es rs (both_true (distinct_by same_name rs) _
    (both_true (results_apart (call rs name es)) _
    (both_true (is_sorted ps (call rs name es)) _ e).1).0).1
