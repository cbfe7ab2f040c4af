use Rattle.formula_table.proofs.ReadRows.{named_there}
use Rattle.formula_table.proofs.tables.Table.named_at.Goals as goal

pub returns-then-has_name : goal.returns-then-has_name
returns-then-has_name c = named_there c.args.self.now c.args.number c.args.kind
    c.in-Some.known _ c.args.name.now (c.in_ok-get_index.ensures.key) c.in-Some.ensures
    c.if-has_name.ensures
