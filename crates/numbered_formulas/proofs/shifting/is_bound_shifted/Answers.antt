-- A bound variable below binders, by the shift.
use Rattle.std.proofs.Common.{◌≡◌, ◌⊎◌, inl, inr, ap, arith, ◌∙◌}
use Rattle.model_terms.specs.Variables.{bound}
use Rattle.model_terms.specs.Terms.{Term, variable}
use Rattle.model_formulas.specs.SameFormulas.{same_term}
use Rattle.letter_bindings.specs.Shifts.{open_with}
use Rattle.dom_terms.specs.Sorts.{sort_of}
use Rattle.formula_table.specs.Forms.{term_at}
use Rattle.formula_table.specs.declared.tables.Table.{Table}
use Rattle.numbered_formulas.specs.declared.variables.Variable.{Variable}
use Rattle.numbered_formulas.specs.declared.shifting.Shift.{Shift}
use Rattle.numbered_formulas.specs.declared.shifting.Shift.TheVariants as s
use Rattle.numbered_formulas.specs.Shifts.{shift_at}
use Rattle.numbered_formulas.proofs.Under.{stays_there, put_there, goes_down, goes_up}
use Rattle.numbered_formulas.proofs.shifting.is_bound_shifted.Goals as goal

-- a shift that closes or raises doesn't open
opens-not : (table : Table) (shift : Shift)
    → ((x : Variable) × (shift ≡ s.Close x)) ⊎ (shift ≡ s.Raise) → (e : Term)
    → shift_at table shift ≡ open_with e → ⊥
opens-not table (s.Close x) h e o = cc
opens-not table s.Raise h e o = cc
opens-not table (s.Open a) (inl h) e o = let k : s.Open a ≡ s.Close h.0 = h.1 in cc
opens-not table (s.Open a) (inr h) e o = cc

pub returns-in-Open : goal.returns-in-Open
returns-in-Open c = put_there (shift_at c.args.table.now c.args.shift) c.args.depth c.args.place
    (sort_of c.args.sort) (term_at c.args.table.now c.args.to) c.is_raised.result
    (term_at c.args.table.now c.in-Open.term) (ap (shift_at c.args.table.now) c.in-Open.is)
    (omega arith) c.is_raised.ensures

pub returns-in-Open-2 : goal.returns-in-Open-2
returns-in-Open-2 c = goes_down (shift_at c.args.table.now c.args.shift) c.args.depth c.args.place
    (sort_of c.args.sort) (term_at c.args.table.now c.args.to) c.is_bound-in-Open-2.result
    (term_at c.args.table.now c.in-Open-2.field-0) (ap (shift_at c.args.table.now) c.in-Open-2.is)
    (omega (arith, c.if-place-depth-2.false)) (c.is_bound-in-Open-2.ensures
    ∙ ap (λ i. same_term (variable (bound i (sort_of c.args.sort)))
    (term_at c.args.table.now c.args.to)) (omega arith))

pub returns-in-Close : goal.returns-in-Close
returns-in-Close c = goes_up (shift_at c.args.table.now c.args.shift) c.args.depth c.args.place
    (sort_of c.args.sort) (term_at c.args.table.now c.args.to) c.is_bound-in-Close.result
    (opens-not c.args.table.now c.args.shift c.in-Close.is) c.if-place-depth.false
    (c.is_bound-in-Close.ensures ∙ ap (λ i. same_term (variable (bound i (sort_of c.args.sort)))
    (term_at c.args.table.now c.args.to)) (omega arith))

pub returns-then-place-depth : goal.returns-then-place-depth
returns-then-place-depth c = stays_there (shift_at c.args.table.now c.args.shift) c.args.depth
    c.args.place (sort_of c.args.sort) (term_at c.args.table.now c.args.to) c.is_bound.result
    c.if-place-depth.true (c.is_bound.ensures ∙ ap (λ i. same_term
    (variable (bound i (sort_of c.args.sort))) (term_at c.args.table.now c.args.to)) c.from.ensures)
