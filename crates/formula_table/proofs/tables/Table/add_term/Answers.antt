use Rattle.std.proofs.Common.{refl}
use Rattle.formula_table.proofs.GrownTables.{with_term, term_grows, term_found}
use Rattle.formula_table.proofs.tables.Table.add_term.Goals as goal

pub invariant_of-self-clause-whole : goal.invariant_of-self-clause-whole
invariant_of-self-clause-whole c = with_term c.args.self.now c.args.row c.requires
    c.add_term.new.rows.keys c.add_term.result c.add_term.ensures.ok c.add_term.ensures.err

pub returns-clause-grows : goal.returns-clause-grows
returns-clause-grows c = term_grows c.args.self.now c.args.row c.requires _ refl refl refl
    c.add_term.result c.add_term.ensures.ok c.add_term.ensures.err

pub returns-clause-ok : goal.returns-clause-ok
returns-clause-ok c = term_found c.args.self.now c.args.row c.requires _ refl refl refl
    c.add_term.result c.add_term.ensures.ok
