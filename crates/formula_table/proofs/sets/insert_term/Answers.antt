use Rattle.formula_table.specs.contracts.rows.TermRowPartialEq.TheImpl as tk
use Rattle.formula_table.proofs.FoundRows.{inserted}
use Rattle.formula_table.proofs.RowTests.{term_row-same, term_row-refl}
use Rattle.formula_table.proofs.sets.insert_term.Goals as goal

pub returns-clause-ok : goal.returns-clause-ok
returns-clause-ok c = let s = c.in_ok-place.ensures.stored in
    inserted tk.eq-value.it term_row-same term_row-refl c.args.row c.args.rows.now.keys
    c.insert_full.new.self.keys c.in_ok-place.place c.in_ok-place.ensures.keys s.0 s.1 s.2
