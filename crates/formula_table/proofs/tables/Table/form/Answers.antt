use Rattle.formula_table.proofs.ReadRows.{form_row, left_before, right_before, truth_row}
use Rattle.formula_table.proofs.tables.Table.form.Goals as goal

-- src/tables.rt:76:5
pub returns-in-Some-clause-row : goal.returns-in-Some-clause-row
returns-in-Some-clause-row c =
    form_row c.args.self.now c.args.number c.in-Some.row.now c.in-Some.ensures.key

-- src/tables.rt:76:5
pub returns-in-Some-clause-left : goal.returns-in-Some-clause-left
returns-in-Some-clause-left c =
    left_before c.args.self.now c.args.number c.in-Some.row.now c.in-Some.ensures.key

-- src/tables.rt:76:5
pub returns-in-Some-clause-right : goal.returns-in-Some-clause-right
returns-in-Some-clause-right c =
    right_before c.args.self.now c.args.number c.in-Some.row.now c.in-Some.ensures.key

-- src/tables.rt:76:5
pub returns-in-None-clause-row : goal.returns-in-None-clause-row
returns-in-None-clause-row c = truth_row c.args.self.now c.args.number c.in-None.ensures.key
    c.of.result c.of.ensures
