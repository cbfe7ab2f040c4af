-- Formulas of different forms are different.
use Rattle.std.proofs.Common.{◌≡◌, Bool, true, false, sym, ap, refl, ◌∙◌}
use Rattle.model_shapes.proofs.Truth.{both_true}
use Rattle.model_shapes.proofs.Tests.{same_data_sort-refl, same_sort-refl}
use Rattle.model_terms.specs.Terms.{Term, Substitution, under_binder, term_with}
use Rattle.model_formulas.specs.Formulas.{Formula, Side, whole, hole_left, hole_right}
use Rattle.model_formulas.specs.Substitution.{formula_with}
use Rattle.model_formulas.specs.SameFormulas.{same_formula, same_side}
use Rattle.model_formulas.proofs.SameFormulas.{same_formula-is}
use Rattle.formula_table.specs.Heads.{build}
use Rattle.formula_table.specs.Rows.{bound_sort}
use Rattle.formula_table.specs.declared.heads.Head.{Head}
use Rattle.formula_table.specs.declared.heads.Head.TheVariants as h
use Rattle.formula_table.specs.declared.rows.FormRow.{FormRow}
use Rattle.formula_table.specs.contracts.heads.HeadPartialEq.TheImpl as hk
use Rattle.formula_table.proofs.BuiltAlike.{built-alike}
use Rattle.formula_table.proofs.RowTests.{row-same, row-refl}
use Rattle.numbered_formulas.specs.Shifts.{IsApart}

-- THE TEST OF FORMS
abbrev row_with : Head → FormRow
row_with h = record { head = h; first = 0; second = 0; third = 0; left = 0; right = 0 }

pub head-same : (h k : Head) → hk.eq-value.it h k ≡ true → h ≡ k
head-same h k e = ap (λ (r : FormRow). r.head) (row-same (row_with h) (row_with k) (rw e refl))

pub head-refl : (h : Head) → hk.eq-value.it h h ≡ true
head-refl h = (both_true _ _ (row-refl (row_with h))).0

-- a substitution leaves the form
with-built : (f : Substitution) (a b c : Term) (p q : Formula) (m : Head)
    → (r : Formula) × ((s : Formula) × (formula_with f (build bound_sort m a b c p q)
    ≡ build bound_sort m (term_with f a) (term_with f b) (term_with f c) r s))
with-built f a b c p q (h.Exists k) = (formula_with (under_binder f) p, (q, refl))
with-built f a b c p q (h.Forall k) = (formula_with (under_binder f) p, (q, refl))
with-built f a b c p q h.True = (p, (q, refl))
with-built f a b c p q h.False = (p, (q, refl))
with-built f a b c p q h.And = (formula_with f p, (formula_with f q, refl))
with-built f a b c p q h.Or = (formula_with f p, (formula_with f q, refl))
with-built f a b c p q h.Imp = (formula_with f p, (formula_with f q, refl))
with-built f a b c p q h.Not = (formula_with f p, (q, refl))
with-built f a b c p q h.Eq = (p, (q, refl))
with-built f a b c p q h.Le = (p, (q, refl))
with-built f a b c p q h.EmptyForest = (p, (q, refl))
with-built f a b c p q h.EmptyGrove = (p, (q, refl))
with-built f a b c p q (h.Hole k) = (p, (q, refl))
with-built f a b c p q h.Node = (formula_with f p, (q, refl))
with-built f a b c p q h.One = (formula_with f p, (q, refl))
with-built f a b c p q h.Root = (formula_with f p, (q, refl))
with-built f a b c p q (h.Join k) = (formula_with f p, (formula_with f q, refl))
with-built f a b c p q h.Plus = (formula_with f p, (formula_with f q, refl))
with-built f a b c p q h.PlusHole = (formula_with f p, (formula_with f q, refl))
with-built f a b c p q (h.App k) = (formula_with f p, (formula_with f q, refl))
with-built f a b c p q h.HoleAdj = (formula_with f p, (formula_with f q, refl))
with-built f a b c p q (h.CtxAdj k) = (formula_with f p, (formula_with f q, refl))
with-built f a b c p q h.Var = (p, (q, refl))
with-built f a b c p q h.Len = (p, (q, refl))
with-built f a b c p q (h.Is k) = (formula_with f p, (q, refl))

not-true : (t : Bool) → (t ≡ true → ⊥) → t ≡ false
not-true true h = absurd (h refl)
not-true false h = refl

pub apart : (m n : Head) → (m ≡ n → ⊥) → (a b c : Term) (p q : Formula)
    → IsApart n (build bound_sort m a b c p q)
apart m n o a b c p q f d e g r s = not-true _ different
  where
    w : (x : Formula) × ((y : Formula) × (formula_with f (build bound_sort n d e g r s)
        ≡ build bound_sort n (term_with f d) (term_with f e) (term_with f g) x y))
    w = with-built f d e g r s n

    different : same_formula (formula_with f (build bound_sort n d e g r s))
        (build bound_sort m a b c p q) ≡ true → ⊥
    different t = o (built-alike a (term_with f d) b (term_with f e) c (term_with f g)
        p w.0 q w.1.0 m n (sym (same_formula-is _ _ t) ∙ w.1.1)).head

pub side-refl : (a : Side) → same_side a a ≡ true
side-refl whole = refl
side-refl hole_left = refl
side-refl hole_right = refl

pub ruleset same_rules = (same_sort-refl, same_data_sort-refl, side-refl)
