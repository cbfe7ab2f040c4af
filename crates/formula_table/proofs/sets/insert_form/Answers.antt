use Rattle.std.proofs.Common.{sym}
use Rattle.formula_table.specs.contracts.rows.FormRowPartialEq.TheImpl as rk
use Rattle.formula_table.proofs.FoundRows.{there, inserted}
use Rattle.formula_table.proofs.RowTests.{row-same, row-refl}
use Rattle.formula_table.proofs.sets.insert_form.Goals as goal

pub returns-in-Some-clause-adds : goal.returns-in-Some-clause-adds
returns-in-Some-clause-adds c = there rk.eq-value.it row-same row-refl c.args.row
    c.args.rows.now.keys c.in-Some.place (sym c.in-Some.ensures.index)

pub returns-in-Ok-clause-adds : goal.returns-in-Ok-clause-adds
returns-in-Ok-clause-adds c = let s = c.in-Ok.ensures.stored in
    inserted rk.eq-value.it row-same row-refl c.args.row c.args.rows.now.keys
    c.insert_full.new.self.keys c.in-Ok.place c.in-Ok.ensures.keys s.0 s.1 s.2
