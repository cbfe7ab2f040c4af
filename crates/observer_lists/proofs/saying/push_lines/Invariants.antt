use Rattle.std.proofs.Common.{◌≡◌, ◌++◌, map, length}
use Rattle.model_answers.specs.Output.{lines_of}
use Rattle.run_trace.specs.Listeners.{listeners_of, said_by}
use Rattle.observer_lists.proofs.saying.push_lines.Given as goal

abbrev pub invariant-observers : goal.invariant-observers
invariant-observers g l = record {
  same : l.text ++ lines_of (map said_by
      (listeners_of g.O.Observer.face g.O.Observer.after g.O.Observer.says l.rest))
      ≡ l.fn.text ++ lines_of (map said_by
      (listeners_of g.O.Observer.face g.O.Observer.after g.O.Observer.says l.observers));
}

abbrev pub decreases-observers : goal.decreases-observers
decreases-observers g l = length l.rest
