use Rattle.formula_table.proofs.Interned.{grown_ends, comparing_row}
use Rattle.formula_table.proofs.tables.Table.comparing.Goals as goal

pub returns : goal.returns
returns c = grown_ends c.args.self.now c.terms_below.new.self c.add_form.new.self
    c.in_ok-first.ensures.grows _ _ c.add_form.result
    (c.add_form.ensures _ _ _ _ _ (comparing_row c.terms_below.new.self c.args.head
    c.in_ok-first.first c.in_ok-first.second _ _ c.requires.terms c.requires.parts
    c.in_ok-first.ensures.left c.in_ok-first.ensures.right))
