use Rattle.std.proofs.Common.{◌∙◌, sym}
use Rattle.formula_table.proofs.SameNumbers.{same_forms-at, same_forms-one, by_first, by_second}
use Rattle.formula_table.proofs.tables.Table.same_forms.Goals as goal

pub returns-then-a-b : goal.returns-then-a-b
returns-then-a-b c = same_forms-one c.args.self.now c.args.a c.args.b c.if-a-b.true

pub returns-then-is_truth : goal.returns-then-is_truth
returns-then-is_truth c = c.is_truth-then-is_truth.ensures
    ∙ by_second _ _ _ _ _ (same_forms-at c.args.self.now c.args.a c.args.b) c.if-a-b.false
    (sym c.is_truth.ensures ∙ c.if-is_truth.true)

pub returns-else-is_truth : goal.returns-else-is_truth
returns-else-is_truth c = c.is_truth.ensures
    ∙ by_first _ _ _ _ _ (same_forms-at c.args.self.now c.args.a c.args.b) c.if-a-b.false
    (sym c.is_truth.ensures ∙ c.if-is_truth.false)
