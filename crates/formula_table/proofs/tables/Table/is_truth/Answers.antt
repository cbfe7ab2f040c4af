use Rattle.std.proofs.Common.{◌∙◌, sym, ap}
use Rattle.model_formulas.specs.Formulas.{truth}
use Rattle.model_formulas.specs.SameFormulas.{same_formula}
use Rattle.formula_table.proofs.SameNumbers.{head-truth}
use Rattle.formula_table.proofs.tables.Table.is_truth.Goals as goal

-- src/tables.rt:68:5
pub returns : goal.returns
returns c = c.eq.ensures ∙ (head-truth c.form.result.head _ _ _ _ _
    ∙ sym (ap (λ p. same_formula p truth) c.form.ensures.row))
