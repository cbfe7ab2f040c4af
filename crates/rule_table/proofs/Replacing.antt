-- Where two formulas are one with either of two terms for a variable, the test of the row eq_subst
-- says yes.
use Rattle.std.proofs.Common.{◌≡◌, ℕ, zero, suc, refl, sym, ap, ◌∙◌, inl, inr, true, ◌&&◌, List}
use Rattle.model_shapes.specs.Sorts.{Sort}
use Rattle.model_shapes.specs.Tests.{same_sort, same_data_sort}
use Rattle.model_terms.specs.Variables.{Var, prog, logic, bound}
use Rattle.model_shapes.proofs.Tests.{same_data_sort-refl, same_sort-refl}
use Rattle.model_terms.specs.VariableTests.{same_var-refl}
use Rattle.model_terms.specs.Terms.{Term, literal, variable, sum, difference, appended, raised, InTerm, Substitution, under_binder, term_with}
use Rattle.model_terms.specs.VariableTests.{var_eq}
use Rattle.model_formulas.specs.Formulas.{Formula, Side, whole, hole_left, hole_right, truth, falsity, conjunction, disjunction, implication, negation, existential, universal, equality, at_most, empty, bare_hole, node_formula, one_tree, one_root, concatenation, grove_sum, grove_sum_hole, application, hole_adjoint, context_adjoint, same_as, length_is, value_meets}
use Rattle.model_formulas.specs.SameFormulas.{same_term, same_side}
use Rattle.model_formulas.specs.Substitution.{formula_with}
use Rattle.model_shapes.proofs.Tests.{same_value-refl}
use Rattle.rule_table.specs.Occurrences.{AsFormula}
use Rattle.rule_table.proofs.Replaced.{same_or, replaced_term, replaced}
use Rattle.model_shapes.proofs.Truth.{and_from}
use Rattle.model_commands.proofs.Sorting.{left-true, right-true}

-- the test of a term and itself
pub same_term-refl : (t : Term) → same_term t t ≡ true
same_term-refl (literal v) = same_value-refl v
same_term-refl (variable x) = same_var-refl x
same_term-refl (sum t u) =
    and_from (same_term t t) (same_term u u) (same_term-refl t) (same_term-refl u)
same_term-refl (difference t u) =
    and_from (same_term t t) (same_term u u) (same_term-refl t) (same_term-refl u)
same_term-refl (appended t u) =
    and_from (same_term t t) (same_term u u) (same_term-refl t) (same_term-refl u)

same_side-refl : (d : Side) → same_side d d ≡ true
same_side-refl whole = refl
same_side-refl hole_left = refl
same_side-refl hole_right = refl

-- the test of a term and itself, and of the two terms
module _ (a b : Term) where
  same_or-refl : (t : Term) → same_or a b t t ≡ true
  same_or-refl t = left-true (same_term t t) (same_term t a && same_term t b) (same_term-refl t)

  unchanged : (t : Term) → replaced_term a b t t ≡ true
  unchanged (sum t u) =
      left-true (same_or a b (sum t u) (sum t u)) (replaced_term a b t t && replaced_term a b u u)
      (same_or-refl (sum t u))
  unchanged (difference t u) =
      left-true (same_or a b (difference t u) (difference t u))
      (replaced_term a b t t && replaced_term a b u u) (same_or-refl (difference t u))
  unchanged (appended t u) =
      left-true (same_or a b (appended t u) (appended t u))
      (replaced_term a b t t && replaced_term a b u u) (same_or-refl (appended t u))
  unchanged (literal v) = same_or-refl (literal v)
  unchanged (variable x) = same_or-refl (variable x)

same_or-here : (a b : Term) → same_or a b a b ≡ true
same_or-here a b =
    right-true (same_term a b) (same_term a a && same_term b b)
    (and_from (same_term a a) (same_term b b) (same_term-refl a) (same_term-refl b))

here : (a b : Term) → replaced_term a b a b ≡ true
here (sum t t') (sum u u') =
    left-true (same_or (sum t t') (sum u u') (sum t t') (sum u u'))
    (replaced_term (sum t t') (sum u u') t u && replaced_term (sum t t') (sum u u') t' u')
    (same_or-here (sum t t') (sum u u'))
here (difference t t') (difference u u') =
    left-true (same_or (difference t t') (difference u u') (difference t t') (difference u u'))
    (replaced_term (difference t t') (difference u u') t u
    && replaced_term (difference t t') (difference u u') t' u')
    (same_or-here (difference t t') (difference u u'))
here (appended t t') (appended u u') =
    left-true (same_or (appended t t') (appended u u') (appended t t') (appended u u'))
    (replaced_term (appended t t') (appended u u') t u
    && replaced_term (appended t t') (appended u u') t' u')
    (same_or-here (appended t t') (appended u u'))
here a b = same_or-here a b

-- a logic variable
module _ (name : List ℕ) (u : Sort) where
  -- two substitutions that differ at the variable alone
  pub record Differ (a b : Term) (f g : Substitution) : Type 0 where
    pub first_at : f (logic name u) ≡ a
    pub second_at : g (logic name u) ≡ b
    pub elsewhere : (y : Var) → (y ≡ logic name u → ⊥) → f y ≡ g y

  differ-under : (a b : Term) (f g : Substitution) → Differ a b f g
      → Differ (raised a) (raised b) (under_binder f) (under_binder g)
  differ-under a b f g d = record {
    first_at = ap raised d.first_at;
    second_at = ap raised d.second_at;
    elsewhere = at;
  }
    where
      not_bound : (i : ℕ) (s : Sort) → bound i s ≡ logic name u → ⊥
      not_bound i s q = cc

      at : (y : Var) → (y ≡ logic name u → ⊥) → under_binder f y ≡ under_binder g y
      at (prog n s) h = ap raised (d.elsewhere (prog n s) h)
      at (logic n s) h = ap raised (d.elsewhere (logic n s) h)
      at (bound zero s) h = refl
      at (bound (suc i) s) h = ap raised (d.elsewhere (bound i s) (not_bound i s))

  module _ (a b : Term) (f g : Substitution) (d : Differ a b f g) where
    replaced-variable : (y : Var) → replaced_term a b (f y) (g y) ≡ true
    replaced-variable y = by_name (var_eq y (logic name u))
      where
        by_name : Dec (y ≡ logic name u) → replaced_term a b (f y) (g y) ≡ true
        by_name (yes q) =
            (λ i. replaced_term a b ((ap f q ∙ d.first_at) i) ((ap g q ∙ d.second_at) i)) ∙ here a b
        by_name (no n) =
            ap (λ z. replaced_term a b z (g y)) (d.elsewhere y n) ∙ unchanged a b (g y)

    replaced-term : (t : Term) → replaced_term a b (term_with f t) (term_with g t) ≡ true
    replaced-term (literal v) = unchanged a b (literal v)
    replaced-term (variable y) = replaced-variable y
    replaced-term (sum t t') =
        right-true (same_or a b (term_with f (sum t t')) (term_with g (sum t t')))
        (replaced_term a b (term_with f t) (term_with g t)
        && replaced_term a b (term_with f t') (term_with g t'))
        (and_from (replaced_term a b (term_with f t) (term_with g t))
        (replaced_term a b (term_with f t') (term_with g t')) (replaced-term t) (replaced-term t'))
    replaced-term (difference t t') =
        right-true (same_or a b (term_with f (difference t t')) (term_with g (difference t t')))
        (replaced_term a b (term_with f t) (term_with g t)
        && replaced_term a b (term_with f t') (term_with g t'))
        (and_from (replaced_term a b (term_with f t) (term_with g t))
        (replaced_term a b (term_with f t') (term_with g t')) (replaced-term t) (replaced-term t'))
    replaced-term (appended t t') =
        right-true (same_or a b (term_with f (appended t t')) (term_with g (appended t t')))
        (replaced_term a b (term_with f t) (term_with g t)
        && replaced_term a b (term_with f t') (term_with g t'))
        (and_from (replaced_term a b (term_with f t) (term_with g t))
        (replaced_term a b (term_with f t') (term_with g t')) (replaced-term t) (replaced-term t'))

    -- a term without the variable
    agreed : (t : Term) → (InTerm (logic name u) t → ⊥) → term_with f t ≡ term_with g t
    agreed (literal v) n = refl
    agreed (variable y) n = d.elsewhere y (λ q. n (sym q))
    agreed (sum t t') n = λ i. sum (agreed t (λ m. n (inl m)) i) (agreed t' (λ m. n (inr m)) i)
    agreed (difference t t') n =
        λ i. difference (agreed t (λ m. n (inl m)) i) (agreed t' (λ m. n (inr m)) i)
    agreed (appended t t') n =
        λ i. appended (agreed t (λ m. n (inl m)) i) (agreed t' (λ m. n (inr m)) i)

    same_agreed : (t : Term) → (InTerm (logic name u) t → ⊥)
        → same_term (term_with f t) (term_with g t) ≡ true
    same_agreed t n =
        ap (same_term (term_with f t)) (sym (agreed t n)) ∙ same_term-refl (term_with f t)

  -- THE TEST SAYS YES
  pub replaced-formula : (p : Formula) (a b : Term) (f g : Substitution) → Differ a b f g
      → (AsFormula (logic name u) p → ⊥) → replaced a b (formula_with f p) (formula_with g p) ≡ true
  replaced-formula truth a b f g d n = refl
  replaced-formula falsity a b f g d n = refl
  replaced-formula (conjunction p q) a b f g d n =
      and_from (replaced a b (formula_with f p) (formula_with g p))
      (replaced a b (formula_with f q) (formula_with g q))
      (replaced-formula p a b f g d (λ m. n (inl m)))
      (replaced-formula q a b f g d (λ m. n (inr m)))
  replaced-formula (disjunction p q) a b f g d n =
      and_from (replaced a b (formula_with f p) (formula_with g p))
      (replaced a b (formula_with f q) (formula_with g q))
      (replaced-formula p a b f g d (λ m. n (inl m)))
      (replaced-formula q a b f g d (λ m. n (inr m)))
  replaced-formula (implication p q) a b f g d n =
      and_from (replaced a b (formula_with f p) (formula_with g p))
      (replaced a b (formula_with f q) (formula_with g q))
      (replaced-formula p a b f g d (λ m. n (inl m)))
      (replaced-formula q a b f g d (λ m. n (inr m)))
  replaced-formula (negation p) a b f g d n = replaced-formula p a b f g d n
  replaced-formula (existential s p) a b f g d n =
      and_from (same_sort s s)
      (replaced (raised a) (raised b) (formula_with (under_binder f) p)
      (formula_with (under_binder g) p))
      (same_sort-refl s)
      (replaced-formula p (raised a) (raised b) (under_binder f) (under_binder g)
      (differ-under a b f g d) n)
  replaced-formula (universal s p) a b f g d n =
      and_from (same_sort s s)
      (replaced (raised a) (raised b) (formula_with (under_binder f) p)
      (formula_with (under_binder g) p))
      (same_sort-refl s)
      (replaced-formula p (raised a) (raised b) (under_binder f) (under_binder g)
      (differ-under a b f g d) n)
  replaced-formula (equality t t') a b f g d n =
      and_from (replaced_term a b (term_with f t) (term_with g t))
      (replaced_term a b (term_with f t') (term_with g t'))
      (replaced-term a b f g d t) (replaced-term a b f g d t')
  replaced-formula (at_most t t') a b f g d n =
      and_from (replaced_term a b (term_with f t) (term_with g t))
      (replaced_term a b (term_with f t') (term_with g t'))
      (replaced-term a b f g d t) (replaced-term a b f g d t')
  replaced-formula (empty k) a b f g d n = same_data_sort-refl k
  replaced-formula (bare_hole k) a b f g d n = same_data_sort-refl k
  replaced-formula (node_formula t i p l) a b f g d n =
      and_from (replaced_term a b (term_with f t) (term_with g t))
      (replaced_term a b (term_with f i) (term_with g i)
      && (replaced a b (formula_with f p) (formula_with g p)
      && replaced_term a b (term_with f l) (term_with g l)))
      (replaced-term a b f g d t)
      (and_from (replaced_term a b (term_with f i) (term_with g i))
      (replaced a b (formula_with f p) (formula_with g p)
      && replaced_term a b (term_with f l) (term_with g l))
      (replaced-term a b f g d i)
      (and_from (replaced a b (formula_with f p) (formula_with g p))
      (replaced_term a b (term_with f l) (term_with g l))
      (replaced-formula p a b f g d n) (replaced-term a b f g d l)))
  replaced-formula (one_tree p) a b f g d n = replaced-formula p a b f g d n
  replaced-formula (one_root p) a b f g d n = replaced-formula p a b f g d n
  replaced-formula (concatenation side p q) a b f g d n =
      and_from (same_side side side)
      (replaced a b (formula_with f p) (formula_with g p)
      && replaced a b (formula_with f q) (formula_with g q))
      (same_side-refl side)
      (and_from (replaced a b (formula_with f p) (formula_with g p))
      (replaced a b (formula_with f q) (formula_with g q))
      (replaced-formula p a b f g d (λ m. n (inl m)))
      (replaced-formula q a b f g d (λ m. n (inr m))))
  replaced-formula (grove_sum p q) a b f g d n =
      and_from (replaced a b (formula_with f p) (formula_with g p))
      (replaced a b (formula_with f q) (formula_with g q))
      (replaced-formula p a b f g d (λ m. n (inl m)))
      (replaced-formula q a b f g d (λ m. n (inr m)))
  replaced-formula (grove_sum_hole p q) a b f g d n =
      and_from (replaced a b (formula_with f p) (formula_with g p))
      (replaced a b (formula_with f q) (formula_with g q))
      (replaced-formula p a b f g d (λ m. n (inl m)))
      (replaced-formula q a b f g d (λ m. n (inr m)))
  replaced-formula (application h p q) a b f g d n =
      and_from (same_data_sort h h)
      (replaced a b (formula_with f p) (formula_with g p)
      && replaced a b (formula_with f q) (formula_with g q))
      (same_data_sort-refl h)
      (and_from (replaced a b (formula_with f p) (formula_with g p))
      (replaced a b (formula_with f q) (formula_with g q))
      (replaced-formula p a b f g d (λ m. n (inl m)))
      (replaced-formula q a b f g d (λ m. n (inr m))))
  replaced-formula (hole_adjoint p q) a b f g d n =
      and_from (replaced a b (formula_with f p) (formula_with g p))
      (replaced a b (formula_with f q) (formula_with g q))
      (replaced-formula p a b f g d (λ m. n (inl m)))
      (replaced-formula q a b f g d (λ m. n (inr m)))
  replaced-formula (context_adjoint k p q) a b f g d n =
      and_from (same_data_sort k k)
      (replaced a b (formula_with f p) (formula_with g p)
      && replaced a b (formula_with f q) (formula_with g q))
      (same_data_sort-refl k)
      (and_from (replaced a b (formula_with f p) (formula_with g p))
      (replaced a b (formula_with f q) (formula_with g q))
      (replaced-formula p a b f g d (λ m. n (inl m)))
      (replaced-formula q a b f g d (λ m. n (inr m))))
  replaced-formula (same_as t) a b f g d n = same_agreed a b f g d t n
  replaced-formula (length_is t) a b f g d n = replaced-term a b f g d t
  replaced-formula (value_meets s t p) a b f g d n =
      and_from (same_sort s s)
      (same_term (term_with f t) (term_with g t)
      && replaced a b (formula_with f p) (formula_with g p))
      (same_sort-refl s)
      (and_from (same_term (term_with f t) (term_with g t))
      (replaced a b (formula_with f p) (formula_with g p))
      (same_agreed a b f g d t (λ m. n (inl m))) (replaced-formula p a b f g d (λ m. n (inr m))))
