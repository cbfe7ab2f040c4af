-- What the test of forms says of a row.
use Rattle.std.proofs.Common.{◌≡◌, true, false, ap, sym, ◌∙◌, subst}
use Rattle.model_shapes.proofs.Truth.{false≢true}
use Rattle.formula_table.specs.Heads.{build}
use Rattle.formula_table.specs.Rows.{bound_sort}
use Rattle.formula_table.specs.Forms.{form_at, term_at}
use Rattle.formula_table.specs.declared.heads.Head.{Head}
use Rattle.formula_table.specs.contracts.heads.HeadPartialEq.TheImpl as hk
use Rattle.numbered_formulas.specs.Shifts.{IsApart}
use Rattle.numbered_formulas.proofs.OneHead.{head-same, head-refl, apart}
use Rattle.numbered_formulas.proofs.shifting.row_of.Goals as goal

pub returns-then-eq-clause-some : goal.returns-then-eq-clause-some
returns-then-eq-clause-some c =
    let t = c.args.table.now in let r = c.form-row.result in
    c.form-row.ensures.row
    ∙ ap (λ (m : Head). build bound_sort m (term_at t r.first) (term_at t r.second)
    (term_at t r.third) (form_at t r.left) (form_at t r.right))
    (head-same r.head c.args.head (sym c.eq.ensures ∙ c.if-eq.true))

different : (m n : Head) → hk.eq-value.it m n ≡ false → m ≡ n → ⊥
different m n h e = let k : hk.eq-value.it m n ≡ true =
    subst (λ (k : Head). hk.eq-value.it m k ≡ true) e (head-refl m) in
    false≢true (sym h ∙ k)

pub returns-else-eq-clause-none : goal.returns-else-eq-clause-none
returns-else-eq-clause-none c =
    let t = c.args.table.now in let r = c.form-row.result in
    λ h. subst (λ x. IsApart c.args.head x) (sym c.form-row.ensures.row)
    (apart r.head c.args.head (different r.head c.args.head (sym c.eq.ensures ∙ c.if-eq.false))
    (term_at t r.first) (term_at t r.second) (term_at t r.third) (form_at t r.left)
    (form_at t r.right))
