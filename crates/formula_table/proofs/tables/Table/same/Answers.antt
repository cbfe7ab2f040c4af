use Rattle.std.proofs.Common.{◌∙◌, sym}
use Rattle.formula_table.specs.Forms.{form_at}
use Rattle.model_formulas.proofs.SameFormulas.{same_formula-both}
use Rattle.formula_table.proofs.tables.Table.same.Goals as goal

-- src/tables.rt:103:5
pub returns : goal.returns
returns c = let h = same_formula-both (form_at c.args.self.now c.args.a.place)
    (form_at c.args.self.now c.args.b.place) in
    ((λ e. h.0 (sym c.same_forms.ensures ∙ e)), (λ e. c.same_forms.ensures ∙ h.1 e))
