use Rattle.std.proofs.Common.{◌≡◌, ◌∙◌, sym}
use Rattle.std.proofs.lemmas.Bool.{OnTrue_from}
use Rattle.model_shapes.proofs.Tests.{bytes-is}
use Rattle.formula_table.specs.Forms.{names_at, name_at}
use Rattle.formula_table.proofs.ReadRows.{a_name}
use Rattle.formula_table.proofs.tables.Table.has_name.Goals as goal

pub returns-in-Some : goal.returns-in-Some
unfolding names_at
returns-in-Some c = OnTrue_from c.same_name.result
    (name_at c.args.self.now c.args.number ≡ c.args.name.now)
    (λ same. a_name c.args.self.now.names.keys c.args.number c.in-Some.known.now
    c.in-Some.ensures.key ∙ (sym c.as_str.ensures.value
    ∙ bytes-is c.as_str.result.now c.args.name.now (sym c.same_name.ensures ∙ same)))
