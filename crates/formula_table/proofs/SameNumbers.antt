-- Two numbers stand for one thing where they are one, or both stand for what no row has.
use Rattle.std.proofs.Common.{◌≡◌, ℕ, ◌<◌, ◌≤◌, ◌⊎◌, Bool, true, false, ◌&&◌, ◌||◌, nat_eq, sym, refl, ap, ◌∙◌, subst, List, [], length, get_or, bytes_eq, inl, inr}
use Rattle.std.proofs.lemmas.Bool.{cases_lt, eqb-true}
use Rattle.std.proofs.lemmas.Bool.Decides.{eqb_tells}
use Rattle.std.proofs.lemmas.List.{get_or_past}
use Rattle.model_shapes.specs.Values.{null}
use Rattle.model_shapes.proofs.Truth.{false≢true}
use Rattle.model_shapes.proofs.Tests.{nat-refl, bytes-is, bytes-refl}
use Rattle.model_terms.specs.Terms.{Term, literal}
use Rattle.model_formulas.specs.Formulas.{Formula, truth, same_as}
use Rattle.model_formulas.specs.SameFormulas.{same_term, same_formula}
use Rattle.model_formulas.proofs.SameFormulas.{term-is, same_formula-is, same_formula-refl}
use Rattle.formula_table.specs.Growing.{Different}
use Rattle.formula_table.specs.Heads.{build}
use Rattle.formula_table.specs.Rows.{bound_sort, read_term}
use Rattle.formula_table.specs.Forms.{names_at, terms_at, forms_at, name_at, term_at, form_at}
use Rattle.formula_table.specs.declared.heads.Head.{Head}
use Rattle.formula_table.specs.declared.heads.Head.TheVariants as h
use Rattle.formula_table.specs.contracts.heads.HeadPartialEq.TheImpl as hk
use Rattle.formula_table.specs.declared.rows.TermRow.{TermRow}
use Rattle.formula_table.specs.declared.rows.TermRow.TheVariants as r
use Rattle.formula_table.specs.contracts.rows.TermRowPartialEq.TheImpl as tk
use Rattle.formula_table.specs.declared.tables.Table.{Table}

both : (b c : Bool) → (b ≡ true → c ≡ true) → (c ≡ true → b ≡ true) → b ≡ c
both true c f g = sym (f refl)
both false true f g = g refl
both false false f g = refl

or-is : (a b : Bool) → (a || b) ≡ true → (a ≡ true) ⊎ (b ≡ true)
or-is true b e = inl refl
or-is false b e = inr e

or-left : (a b : Bool) → a ≡ true → (a || b) ≡ true
or-left true b e = refl
or-left false b e = false≢true e

or-right : (a b : Bool) → b ≡ true → (a || b) ≡ true
or-right true b e = refl
or-right false b e = e

and-is : (a b : Bool) → (a && b) ≡ true → (a ≡ true) × (b ≡ true)
and-is true b e = (refl, e)
and-is false b e = false≢true e

and-both : (a b : Bool) → a ≡ true → b ≡ true → (a && b) ≡ true
and-both true b e f = f
and-both false b e f = false≢true e

module _ {A : Type 0} (test : A → A → Bool) (is : (a b : A) → test a b ≡ true → a ≡ b)
    (itself : (a : A) → test a a ≡ true) (xs : List A) (one : Different xs) (d : A) where
  equal : (a b : A) → a ≡ b → test a b ≡ true
  equal a b e = subst (λ c. test a c ≡ true) e (itself a)

  pub same_at : (i j : ℕ) → (nat_eq i j || (test (get_or xs i d) d && test (get_or xs j d) d))
      ≡ test (get_or xs i d) (get_or xs j d)
  same_at i j = both _ _ one_way other_way
    where
      one_way : (nat_eq i j || (test (get_or xs i d) d && test (get_or xs j d) d)) ≡ true
          → test (get_or xs i d) (get_or xs j d) ≡ true
      one_way e = elim (or-is (nat_eq i j) _ e)
          as (λ _. test (get_or xs i d) (get_or xs j d) ≡ true) [
            | inl n ↦ equal _ _ (ap (λ k. get_or xs k d) (eqb-true i j n))
            | inr n ↦ let h : (test (get_or xs i d) d ≡ true) × (test (get_or xs j d) d ≡ true) =
                and-is _ _ n in equal _ _ (is _ _ h.0 ∙ sym (is _ _ h.1))
          ]

      out : get_or xs i d ≡ d → get_or xs j d ≡ d
          → (nat_eq i j || (test (get_or xs i d) d && test (get_or xs j d) d)) ≡ true
      out a b = or-right (nat_eq i j) _ (and-both _ _ (equal _ _ a) (equal _ _ b))

      by_places : get_or xs i d ≡ get_or xs j d → (i < length xs) ⊎ (length xs ≤ i)
          → (j < length xs) ⊎ (length xs ≤ j)
          → (nat_eq i j || (test (get_or xs i d) d && test (get_or xs j d) d)) ≡ true
      by_places e (inl p) (inl q) = or-left (nat_eq i j) _
          (subst (λ k. nat_eq i k ≡ true) (one i j d p q e) (nat-refl i))
      by_places e (inr p) q = out (get_or_past xs i d p) (sym e ∙ get_or_past xs i d p)
      by_places e p (inr q) = out (e ∙ get_or_past xs j d q) (get_or_past xs j d q)

      other_way : test (get_or xs i d) (get_or xs j d) ≡ true
          → (nat_eq i j || (test (get_or xs i d) d && test (get_or xs j d) d)) ≡ true
      other_way e = by_places (is _ _ e) (cases_lt i (length xs)) (cases_lt j (length xs))

term-itself : (a : Term) → same_term a a ≡ true
term-itself a = same_formula-refl (same_as a)

module _ (t : Table) (i j : ℕ) where
  pub same_forms-at : (nat_eq i j
      || (same_formula (form_at t i) truth && same_formula (form_at t j) truth))
      ≡ same_formula (form_at t i) (form_at t j)
  unfolding names_at terms_at forms_at
  same_forms-at = same_at same_formula same_formula-is same_formula-refl (forms_at t)
      t.whole.forms_grown.different truth i j

  pub same_terms-at : (nat_eq i j
      || (same_term (term_at t i) (literal null) && same_term (term_at t j) (literal null)))
      ≡ same_term (term_at t i) (term_at t j)
  unfolding names_at terms_at
  same_terms-at = same_at same_term term-is term-itself (terms_at t)
      t.whole.terms_grown.different (literal null) i j

  pub same_names-at : (nat_eq i j || (bytes_eq (name_at t i) [] && bytes_eq (name_at t j) []))
      ≡ bytes_eq (name_at t i) (name_at t j)
  unfolding names_at
  same_names-at = same_at bytes_eq bytes-is bytes-refl (names_at t) t.whole.one_name [] i j

-- the three ways through the test of two numbers
module _ (i j : ℕ) (x y s : Bool) (e : (nat_eq i j || (x && y)) ≡ s) where
  one_number : i ≡ j → nat_eq i j ≡ s
  one_number h = let k : nat_eq i j ≡ true = subst (λ n. nat_eq i n ≡ true) h (nat-refl i) in
      k ∙ (sym (ap (λ b. b || (x && y)) k) ∙ e)

  apart : (i ≡ j → ⊥) → nat_eq i j ≡ false
  apart n = elim (eqb_tells i j) as (λ _. nat_eq i j ≡ false) [
    | inl h ↦ absurd (n h.1)
    | inr h ↦ h.0
  ]

  pub by_second : (i ≡ j → ⊥) → x ≡ true → y ≡ s
  by_second h k = sym (λ l. apart h l || (k l && y)) ∙ e

  pub by_first : (i ≡ j → ⊥) → x ≡ false → x ≡ s
  by_first h k = k ∙ (sym (λ l. apart h l || (k l && y)) ∙ e)

module _ (t : Table) (i j : ℕ) (e : i ≡ j) where
  pub same_forms-one : nat_eq i j ≡ same_formula (form_at t i) (form_at t j)
  same_forms-one = one_number i j (same_formula (form_at t i) truth)
      (same_formula (form_at t j) truth) _ (same_forms-at t i j) e

  pub same_terms-one : nat_eq i j ≡ same_term (term_at t i) (term_at t j)
  same_terms-one = one_number i j (same_term (term_at t i) (literal null))
      (same_term (term_at t j) (literal null)) _ (same_terms-at t i j) e

  pub same_names-one : nat_eq i j ≡ bytes_eq (name_at t i) (name_at t j)
  same_names-one = one_number i j (bytes_eq (name_at t i) []) (bytes_eq (name_at t j) []) _
      (same_names-at t i j) e

-- WHAT NO ROW HAS
pub head-truth : (m : Head) (a b c : Term) (p q : Formula)
    → hk.eq-value.it m h.True ≡ same_formula (build bound_sort m a b c p q) truth
head-truth h.True a b c p q = refl
head-truth m a b c p q = refl

pub row-null : (names : List (List ℕ)) (terms : List Term) (m : TermRow)
    → tk.eq-value.it m r.NullNode ≡ same_term (read_term names terms m) (literal null)
row-null names terms r.NullNode = refl
row-null names terms m = refl
