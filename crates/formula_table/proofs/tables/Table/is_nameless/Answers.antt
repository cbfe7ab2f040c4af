use Rattle.std.proofs.Common.{◌∙◌, sym, ap, bytes_eq, []}
use Rattle.formula_table.specs.Forms.{names_at}
use Rattle.formula_table.proofs.ReadRows.{is_empty, no_name, a_name}
use Rattle.formula_table.proofs.tables.Table.is_nameless.Goals as goal

-- src/tables.rt:145:5
pub returns-in-Some : goal.returns-in-Some
unfolding names_at
returns-in-Some c = c.is_empty.ensures ∙ (is_empty c.as_str.result.now
    ∙ ap (λ x. bytes_eq x []) (c.as_str.ensures.value
    ∙ sym (a_name c.args.self.now.names.keys c.args.number c.in-Some.name.now
    c.in-Some.ensures.key)))

-- src/tables.rt:145:5
pub returns-in-None : goal.returns-in-None
unfolding names_at
returns-in-None c = sym (ap (λ x. bytes_eq x [])
    (no_name c.args.self.now.names.keys c.args.number c.in-None.ensures.key))
