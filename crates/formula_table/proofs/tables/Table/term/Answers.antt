use Rattle.formula_table.proofs.ReadRows.{term_row, term_within, no_term}
use Rattle.formula_table.proofs.tables.Table.term.Goals as goal

pub returns-in-Some-clause-row : goal.returns-in-Some-clause-row
returns-in-Some-clause-row c =
    term_row c.args.self.now c.args.number c.in-Some.row.now c.in-Some.ensures.key

pub returns-in-Some-clause-smaller : goal.returns-in-Some-clause-smaller
returns-in-Some-clause-smaller c =
    term_within c.args.self.now c.args.number c.in-Some.row.now c.in-Some.ensures.key

pub returns-in-None-clause-row : goal.returns-in-None-clause-row
returns-in-None-clause-row c = no_term c.args.self.now c.args.number c.in-None.ensures.key
