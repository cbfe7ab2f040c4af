use Rattle.std.proofs.Common.{◌∙◌, sym}
use Rattle.formula_table.proofs.SameNumbers.{same_terms-at, same_terms-one, by_first, by_second}
use Rattle.formula_table.proofs.tables.Table.same_terms.Goals as goal

pub returns-then-a-b : goal.returns-then-a-b
returns-then-a-b c = same_terms-one c.args.self.now c.args.a c.args.b c.if-a-b.true

pub returns-then-is_null : goal.returns-then-is_null
returns-then-is_null c = c.is_null-then-is_null.ensures
    ∙ by_second _ _ _ _ _ (same_terms-at c.args.self.now c.args.a c.args.b) c.if-a-b.false
    (sym c.is_null.ensures ∙ c.if-is_null.true)

pub returns-else-is_null : goal.returns-else-is_null
returns-else-is_null c = c.is_null.ensures
    ∙ by_first _ _ _ _ _ (same_terms-at c.args.self.now c.args.a c.args.b) c.if-a-b.false
    (sym c.is_null.ensures ∙ c.if-is_null.false)
