use Rattle.std.proofs.Common.{refl}
use Rattle.formula_table.specs.OverNames.{named_term}
use Rattle.formula_table.proofs.GrownTables.{rows_stay}
use Rattle.formula_table.proofs.KeptNumbers.{terms_grow-trans, term-grown}
use Rattle.formula_table.proofs.tables.Table.add_named.Goals as goal

pub returns-clause-grows : goal.returns-clause-grows
returns-clause-grows c = terms_grow-trans c.args.self.now c.find_named.new.self _
    c.in_ok-number.ensures.grows (rows_stay c.find_named.new.self _ refl refl refl refl)

pub returns-clause-ok : goal.returns-clause-ok
returns-clause-ok c = term-grown c.find_named.new.self _
    (rows_stay c.find_named.new.self _ refl refl refl refl) c.in_ok-number.number
    (named_term c.args.kind c.args.name.now) c.in_ok-number.ensures.ok
