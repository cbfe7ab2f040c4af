-- Quantifiers, below binders.
use Rattle.std.proofs.Common.{◌≡◌, ◌⊎◌, inl, inr, ℕ, suc, ◌+◌, Bool, ◌&&◌, add-one, ap, ap₂, sym, ◌∙◌}
use Rattle.model_shapes.proofs.Tests.{same_sort-refl}
use Rattle.model_terms.specs.Terms.{Term, Substitution}
use Rattle.model_formulas.specs.Formulas.{Formula}
use Rattle.model_formulas.specs.Substitution.{formula_with}
use Rattle.model_formulas.specs.SameFormulas.{same_formula}
use Rattle.letter_bindings.specs.Shifts.{shifting, under}
use Rattle.dom_terms.specs.declared.sorts.Sort.{Sort}
use Rattle.dom_terms.specs.Sorts.{sort_of}
use Rattle.formula_table.specs.Heads.{build}
use Rattle.formula_table.specs.Rows.{bound_sort}
use Rattle.formula_table.specs.Forms.{form_at, term_at}
use Rattle.formula_table.specs.declared.heads.Head.{Head}
use Rattle.formula_table.specs.declared.heads.Head.TheVariants as h
use Rattle.numbered_formulas.specs.Shifts.{shift_at}
use Rattle.numbered_formulas.proofs.shifting.+is_shifted_below.Goals as goal

module _ (n : ℕ) (f : Substitution) (a b c a' b' c' : Term) (p q p' q' : Formula) (r : Bool)
    (e : r ≡ same_formula (formula_with (under (n + 1) f) p) p') where
  inside : (k : Sort) → r ≡ same_formula
      (formula_with (under n f) (build bound_sort (h.Exists k) a b c p q))
      (build bound_sort (h.Exists k) a' b' c' p' q')
  inside k = e ∙ (ap (λ j. same_formula (formula_with (under j f) p) p') (add-one n)
      ∙ sym (ap (λ z. z && same_formula (formula_with (under (suc n) f) p) p')
      (same_sort-refl (sort_of k))))

  quantified : (m : Head) → ((k : Sort) × (m ≡ h.Exists k)) ⊎ ((k : Sort) × (m ≡ h.Forall k))
      → r ≡ same_formula (formula_with (under n f) (build bound_sort m a b c p q))
      (build bound_sort m a' b' c' p' q')
  quantified (h.Exists k) o = inside k
  quantified (h.Forall k) o = inside k
  quantified m (inl o) = let w : m ≡ h.Exists o.0 = o.1 in absurd (cc)
  quantified m (inr o) = let w : m ≡ h.Forall o.0 = o.1 in absurd (cc)

pub returns-in-Exists : goal.returns-in-Exists
returns-in-Exists t c =
    let u = c.args.table.now in let r = c.form-row.result in let o = c.in-Some.other in
    let f : Substitution = shifting (shift_at u c.args.shift) in
    quantified c.args.depth f (term_at u r.first) (term_at u r.second) (term_at u r.third)
    (term_at u o.first) (term_at u o.second) (term_at u o.third) (form_at u r.left)
    (form_at u r.right) (form_at u o.left) (form_at u o.right)
    c.is_shifted_below-in-Exists.result c.is_shifted_below-in-Exists.ensures r.head c.in-Exists.is
    ∙ sym (ap₂ (λ x y. same_formula (formula_with (under c.args.depth f) x) y)
    c.form-row.ensures.row c.in-Some.ensures.some)
