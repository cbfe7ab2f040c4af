use Rattle.std.proofs.Common.{sym, ◌∙◌, arith}
use Rattle.formula_table.proofs.RowTests.{row-same}
use Rattle.formula_table.proofs.sets.place_of_form.Goals as goal

pub returns-then-eq : goal.returns-then-eq
returns-then-eq c = let same = row-same c.in_ok-there.there.now c.args.row.now
    (sym c.eq.ensures ∙ c.if-eq.true) in
    let found = c.in_ok-there.ensures.lookup in (omega arith, cc)
