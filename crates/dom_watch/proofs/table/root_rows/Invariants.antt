use Rattle.std.proofs.Common.{◌≡◌, take}
use Rattle.std.specs.List.{All}
use Rattle.dom_watch.specs.Tables.{numbers_of, StandsIn}
use Rattle.dom_watch.proofs.table.root_rows.Given as goal

abbrev pub invariant-loop-number : goal.invariant-loop-number
invariant-loop-number l = record {
  numbers : numbers_of l.rows.items ≡ take l.number-index l.number-items;
  stand : All (StandsIn l.heap.grove) l.rows.items;
}
