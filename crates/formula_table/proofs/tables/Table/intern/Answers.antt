use Rattle.model_formulas.specs.Formulas.{truth}
use Rattle.formula_table.proofs.Interned.{full_at}
use Rattle.formula_table.proofs.tables.Table.intern.Goals as goal

pub returns-in_err-place-clause-no_room : goal.returns-in_err-place-clause-no_room
returns-in_err-place-clause-no_room c q = full_at c.args.self.now c.formula_below.new.self _ truth _
    c.from_residual.result c.from_residual.ensures.1 c.in_err-place.ensures q
