use Rattle.std.proofs.Common.{subst, sym}
use Rattle.std.specs.List.{IsDistinct}
use Rattle.formula_table.proofs.Distinct.{next}
use Rattle.formula_table.proofs.copying.copy_rows.Goals as goal

pub loop-row-preserved : goal.loop-row-preserved
loop-row-preserved g c = next g.R.PartialEq.eq g.met.R.Eq.laws.symm
    c.as_slice-row-items.result.now
    (subst (IsDistinct g.R.PartialEq.eq) (sym c.as_slice-row-items.ensures.keys)
    c.as_slice-row-items.ensures.unique)
    c.loop-row.copied.keys c.insert_full.new.self.keys c.loop-row.row-index c.row-item.result
    c.loop-row.invariant c.loop-row-test.true c.row-item.is
    c.in_ok-insert_full.ensures.keys
