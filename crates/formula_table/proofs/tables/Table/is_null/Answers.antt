use Rattle.std.proofs.Common.{◌∙◌, sym, ap}
use Rattle.model_shapes.specs.Values.{null}
use Rattle.model_terms.specs.Terms.{literal}
use Rattle.model_formulas.specs.SameFormulas.{same_term}
use Rattle.formula_table.proofs.SameNumbers.{row-null}
use Rattle.formula_table.proofs.tables.Table.is_null.Goals as goal

pub returns : goal.returns
returns c = c.eq.ensures ∙ (row-null _ _ c.term.result
    ∙ sym (ap (λ a. same_term a (literal null)) c.term.ensures.row))
