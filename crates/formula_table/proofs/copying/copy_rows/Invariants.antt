use Rattle.std.proofs.Common.{◌≡◌, take}
use Rattle.formula_table.proofs.copying.copy_rows.Given as goal

abbrev pub invariant-loop-row : goal.invariant-loop-row
invariant-loop-row g l = l.copied.keys ≡ take l.row-index l.row-items
