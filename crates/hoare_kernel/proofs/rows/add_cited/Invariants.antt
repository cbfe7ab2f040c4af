use Rattle.std.proofs.Common.{ℕ, ◌<◌, get_or}
use Rattle.formula_table.specs.Interning.{KeepsAll}
use Rattle.cited_steps.specs.Earlier.{steps_in}
use Rattle.hoare_kernel.specs.Rows.{NumberHasRows}
use Rattle.hoare_kernel.proofs.rows.add_cited.Given as goal

abbrev pub invariant-loop-number : goal.invariant-loop-number
invariant-loop-number l = record {
  kept : KeepsAll l.fn.table l.table;
  rows : (i : ℕ) → i < l.number-index
      → NumberHasRows l.table (steps_in l.earlier) (get_or l.numbers i 0);
}
