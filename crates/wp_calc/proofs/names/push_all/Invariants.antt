use Rattle.std.proofs.Common.{◌≡◌, ◌++◌, take}
use Rattle.wp_calc.proofs.names.push_all.Given as goal

abbrev pub invariant-loop-sort : goal.invariant-loop-sort
invariant-loop-sort l = l.sorts ≡ l.initial.sorts ++ take l.sort-index l.more
