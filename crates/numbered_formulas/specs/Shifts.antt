-- Needn't be believed: the program's promise doesn't speak of it. The shifts that those of the
-- program stand for, and terms below more binders.
use Rattle.std.specs.Prelude.{◌≡◌, false, ℕ, zero, suc}
use Rattle.model_terms.specs.Terms.{Term, Substitution, raised}
use Rattle.model_formulas.specs.Formulas.{Formula}
use Rattle.model_formulas.specs.Substitution.{formula_with}
use Rattle.model_formulas.specs.SameFormulas.{same_formula}
use Rattle.letter_bindings.specs.Shifts as model
use Rattle.formula_table.specs.declared.heads.Head.{Head}
use Rattle.formula_table.specs.Heads.{build}
use Rattle.formula_table.specs.Rows.{bound_sort}
use Rattle.formula_table.specs.Forms.{term_at}
use Rattle.formula_table.specs.declared.tables.Table.{Table}
use Rattle.numbered_formulas.specs.Variables.{variable_at}
use Rattle.numbered_formulas.specs.declared.shifting.Shift.{Shift}
use Rattle.numbered_formulas.specs.declared.shifting.Shift.TheVariants as s

-- the shift
abbrev pub shift_at : Table → Shift → model.Shift
shift_at table (s.Close variable) = model.close (variable_at table variable)
shift_at table s.Raise = model.raise
shift_at table (s.Open term) = model.open_with (term_at table term)

-- the term as it is written under so many more binders
abbrev pub raised_by : ℕ → Term → Term
raised_by zero a = a
raised_by (suc n) a = raised (raised_by n a)

-- no formula of the form is this one, whatever terms take the place of its variables
abbrev pub IsApart : Head → Formula → Type 0
IsApart head r = (f : Substitution) (a b c : Term) (p q : Formula)
    → same_formula (formula_with f (build bound_sort head a b c p q)) r ≡ false
