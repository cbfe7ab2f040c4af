use Rattle.std.proofs.Common.{◌∙◌, sym, subst}
use Rattle.std.specs.List.{IsDistinct}
use Rattle.formula_table.proofs.Distinct.{same_text, next_name}
use Rattle.formula_table.proofs.copying.copy_names.Goals as goal

pub loop-name-preserved : goal.loop-name-preserved
loop-name-preserved c = next_name c.as_slice-name-items.result.now
    (subst (IsDistinct same_text) (sym c.as_slice-name-items.ensures.keys)
    c.as_slice-name-items.ensures.unique)
    c.loop-name.copied.keys c.insert_full.new.self.keys c.loop-name.name-index
    c.name-item.result c.in_ok-from_str.field-0 c.loop-name.invariant c.loop-name-test.true
    c.name-item.is (c.in_ok-from_str.ensures.ok ∙ c.as_str.ensures.value)
    c.in_ok-insert_full.ensures.keys
