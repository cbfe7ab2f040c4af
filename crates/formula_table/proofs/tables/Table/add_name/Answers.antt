use Rattle.std.proofs.Common.{refl, map}
use Rattle.std.specs.String.{string_bytes}
use Rattle.formula_table.proofs.GrownTables.{names_table, name_grows, name_found}
use Rattle.formula_table.proofs.tables.Table.add_name.Goals as goal

pub invariant_of-self-clause-whole : goal.invariant_of-self-clause-whole
invariant_of-self-clause-whole c = names_table c.args.name.now
    (map string_bytes c.args.self.now.names.keys) (map string_bytes c.add_name.new.names.keys)
    c.args.self.now.terms.keys c.args.self.now.forms.keys c.add_name.result c.add_name.ensures.ok
    c.add_name.ensures.err c.args.self.now.whole

pub returns-clause-grows : goal.returns-clause-grows
returns-clause-grows c = name_grows c.args.self.now _ refl refl refl c.args.name.now
    c.add_name.result c.add_name.ensures.ok c.add_name.ensures.err

pub returns-clause-ok : goal.returns-clause-ok
returns-clause-ok c = name_found c.args.self.now _ refl refl refl c.args.name.now
    c.add_name.result c.add_name.ensures.ok
