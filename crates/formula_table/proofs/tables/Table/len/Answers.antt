use Rattle.std.proofs.Common.{◌∙◌}
use Rattle.formula_table.proofs.ReadRows.{form_count}
use Rattle.formula_table.proofs.tables.Table.len.Goals as goal

-- src/tables.rt:68:5
pub returns : goal.returns
returns c = c.len.ensures.len ∙ form_count c.args.self.now
