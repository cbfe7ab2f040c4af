use Rattle.std.proofs.Common.{◌∙◌, ap, subst}
use Rattle.formula_table.specs.Forms.{names_at, terms_at}
use Rattle.formula_table.specs.Interning.{IsTerm}
use Rattle.formula_table.specs.OverNames.{named_term}
use Rattle.formula_table.specs.Rows.{read_term}
use Rattle.formula_table.proofs.KeptNumbers.{terms_grow-trans}
use Rattle.formula_table.proofs.ReadRows.{named-reads}
use Rattle.formula_table.proofs.tables.Table.insert_named.Goals as goal

pub returns-clause-grows : goal.returns-clause-grows
returns-clause-grows c = terms_grow-trans c.args.self.now c.add_name.new.self
    c.add_term.new.self c.in_ok-name.ensures.grows c.in_ok-number.ensures.grows

pub returns-clause-ok : goal.returns-clause-ok
returns-clause-ok c =
    subst (λ a. IsTerm c.add_term.new.self c.in_ok-number.number a)
    (ap (read_term (names_at c.add_name.new.self) (terms_at c.add_name.new.self)) c.row.ensures
    ∙ (named-reads (names_at c.add_name.new.self) (terms_at c.add_name.new.self) c.args.kind
    c.in_ok-name.name ∙ ap (named_term c.args.kind) c.in_ok-name.ensures.ok.is))
    c.in_ok-number.ensures.ok
