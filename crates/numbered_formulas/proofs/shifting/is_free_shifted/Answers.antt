-- A variable of the logic below binders, by the shift.
use Rattle.std.proofs.Common.{◌≡◌, false, ap, refl, sym, ◌∙◌, subst}
use Rattle.model_terms.specs.Variables.{bound}
use Rattle.model_terms.specs.VariableTests.{same_var}
use Rattle.model_terms.specs.Terms.{variable}
use Rattle.model_formulas.specs.SameFormulas.{same_term}
use Rattle.rule_table.specs.Letters.{LogicVar, as_logic}
use Rattle.dom_terms.specs.Sorts.{sort_of}
use Rattle.formula_table.specs.Forms.{name_at, term_at}
use Rattle.letter_bindings.specs.Shifts.{close}
use Rattle.formula_table.specs.declared.tables.Table.{Table}
use Rattle.numbered_formulas.specs.declared.variables.Variable.{Variable}
use Rattle.numbered_formulas.specs.declared.shifting.Shift.{Shift}
use Rattle.numbered_formulas.specs.declared.shifting.Shift.TheVariants as s
use Rattle.numbered_formulas.specs.Variables.{variable_at}
use Rattle.numbered_formulas.specs.Shifts.{shift_at}
use Rattle.numbered_formulas.proofs.Under.{closed_over, stays_free}
use Rattle.numbered_formulas.proofs.shifting.is_free_shifted.Goals.{in_default-via-in-Close+else-same_variables, in_default-via-in_default}
use Rattle.numbered_formulas.proofs.shifting.is_free_shifted.Goals as goal

pub returns-in-Close : goal.returns-in-Close
returns-in-Close c = closed_over (shift_at c.args.table.now c.args.shift) c.args.depth
    (name_at c.args.table.now c.args.variable.name) (sort_of c.args.variable.sort)
    (term_at c.args.table.now c.args.to) c.is_bound.result
    (variable_at c.args.table.now c.in-Close.closed)
    (ap (shift_at c.args.table.now) c.in-Close.is)
    (sym c.same_variables.ensures ∙ c.if-same_variables.true)
    (c.is_bound.ensures ∙ ap (λ i. same_term (variable (bound i (sort_of c.in-Close.closed.sort)))
    (term_at c.args.table.now c.args.to)) c.from.ensures)

-- a shift that isn't one that closes
closes-not : (table : Table) (shift : Shift) → ((x : Variable) → shift ≡ s.Close x → ⊥)
    → (x : LogicVar) → shift_at table shift ≡ close x → ⊥
closes-not table (s.Close y) h x o = h y refl
closes-not table s.Raise h x o = cc
closes-not table (s.Open a) h x o = cc

-- one that closes over something else
closes-other : (table : Table) (shift : Shift) (v y : Variable) → shift ≡ s.Close y
    → same_var (as_logic (variable_at table v)) (as_logic (variable_at table y)) ≡ false
    → (x : LogicVar) → shift_at table shift ≡ close x
    → same_var (as_logic (variable_at table v)) (as_logic x) ≡ false
closes-other table shift v y e h x o =
    let p : shift_at table shift ≡ close (variable_at table y) = ap (shift_at table) e in
    let q : variable_at table y ≡ x = cc in
    subst (λ (z : LogicVar). same_var (as_logic (variable_at table v)) (as_logic z) ≡ false) q h

pub returns-in_default : goal.returns-in_default
returns-in_default c = stays_free (shift_at c.args.table.now c.args.shift) c.args.depth
    (name_at c.args.table.now c.args.variable.name) (sort_of c.args.variable.sort)
    (term_at c.args.table.now c.args.to) c.is_logic.result
    (elim c.in_default.branch [
      | in_default-via-in-Close+else-same_variables w ↦ closes-other c.args.table.now c.args.shift
          c.args.variable w.in-Close.closed w.in-Close.is
          (sym w.same_variables.ensures ∙ w.if-same_variables.false)
      | in_default-via-in_default w ↦ λ x o. absurd
          (closes-not c.args.table.now c.args.shift w.in_default.not-Close x o)
    ])
    c.is_logic.ensures
