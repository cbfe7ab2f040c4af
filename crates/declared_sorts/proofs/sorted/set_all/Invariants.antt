use Rattle.std.proofs.Common.{◌≡◌, map, take}
use Rattle.std.specs.List.{list_all}
use Rattle.declared_sorts.specs.Declarations.{declared_of, scope_in}
use Rattle.declared_sorts.specs.Settled.{is_settled}
use Rattle.declared_sorts.proofs.Each.{Each, Same}
use Rattle.declared_sorts.proofs.sorted.set_all.Given as goal

abbrev pub invariant-loop-i : goal.invariant-loop-i
invariant-loop-i g l = record {
  same : Same l.items l.initial.items l.i;
  each : Each g.T.Sorted.seen (g.T.Sorted.sorted (declared_of l.declared)) l.items l.initial.items
      l.i;
  told : l.are_settled ≡ list_all
      (λ y. list_all (is_settled (scope_in l.declared)) (g.T.Sorted.variables y))
      (map g.T.Sorted.seen (take l.i l.items));
}
