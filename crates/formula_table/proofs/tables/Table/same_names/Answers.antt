use Rattle.std.proofs.Common.{◌∙◌, sym}
use Rattle.formula_table.proofs.SameNumbers.{same_names-at, same_names-one, by_first, by_second}
use Rattle.formula_table.proofs.tables.Table.same_names.Goals as goal

pub returns-then-a-b : goal.returns-then-a-b
returns-then-a-b c = same_names-one c.args.self.now c.args.a c.args.b c.if-a-b.true

pub returns-then-is_nameless : goal.returns-then-is_nameless
returns-then-is_nameless c = c.is_nameless-then-is_nameless.ensures
    ∙ by_second _ _ _ _ _ (same_names-at c.args.self.now c.args.a c.args.b) c.if-a-b.false
    (sym c.is_nameless.ensures ∙ c.if-is_nameless.true)

pub returns-else-is_nameless : goal.returns-else-is_nameless
returns-else-is_nameless c = c.is_nameless.ensures
    ∙ by_first _ _ _ _ _ (same_names-at c.args.self.now c.args.a c.args.b) c.if-a-b.false
    (sym c.is_nameless.ensures ∙ c.if-is_nameless.false)
