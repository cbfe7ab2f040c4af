use Rattle.std.proofs.Common.{◌≡◌, length}
use Rattle.run_trace.specs.Changes.{change_of}
use Rattle.run_trace.specs.Listeners.{listeners_of}
use Rattle.observer_lists.proofs.Heard.{SoFar}
use Rattle.observer_lists.proofs.telling.tell_each.Given as goal

abbrev pub invariant-loop-i : goal.invariant-loop-i
invariant-loop-i g l = record {
  size : length l.observers.items ≡ length l.initial.observers.items;
  so_far : SoFar (change_of l.change)
      (listeners_of g.O.Observer.face g.O.Observer.after g.O.Observer.says
      l.initial.observers.items) l.i
      (listeners_of g.O.Observer.face g.O.Observer.after g.O.Observer.says l.observers.items);
}
