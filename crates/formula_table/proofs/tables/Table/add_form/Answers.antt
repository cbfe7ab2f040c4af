use Rattle.std.proofs.Common.{refl}
use Rattle.formula_table.proofs.GrownTables.{with_form, form_ends}
use Rattle.formula_table.proofs.Interned.{row_ends}
use Rattle.formula_table.proofs.tables.Table.add_form.Goals as goal

pub invariant_of-self-clause-whole : goal.invariant_of-self-clause-whole
invariant_of-self-clause-whole c = with_form c.args.self.now c.args.row c.requires
    c.add_form.new.rows.keys c.add_form.result c.add_form.ensures.adds

pub returns : goal.returns
returns c a b d p q h = row_ends c.args.self.now _ c.args.row a b d p q h c.add_form.result
    (form_ends c.args.self.now c.args.row c.requires _ refl refl refl
    c.add_form.result c.add_form.ensures.adds)
