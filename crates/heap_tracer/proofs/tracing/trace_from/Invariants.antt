use Rattle.std.proofs.Common.{◌≡◌, ℕ, List, [], map}
use Rattle.model_commands.specs.Theories.{procedures_of}
use Rattle.model_machine.specs.Changes.{Change}
use Rattle.model_machine.specs.Fitting.{FitsConfig}
use Rattle.model_machine.specs.Outcomes.{Outcome}
use Rattle.theory_syntax.specs.Theories.{theory_of}
use Rattle.heap_runner.specs.RunViews.{config_on}
use Rattle.run_trace.specs.Changes.{change_of}
use Rattle.run_trace.specs.Listeners.{listeners_of, told_all}
use Rattle.heap_tracer.specs.Traces.{Follows}
use Rattle.heap_tracer.proofs.tracing.trace_from.Given as goal

abbrev pub invariant-loop-steps : goal.invariant-loop-steps
invariant-loop-steps g l = record {
  fits : FitsConfig (procedures_of (theory_of l.theory)) (config_on l.run l.heap.grove);
  results : l.run.results ≡ l.fn.run.results;
  taken : l.run.steps ≡ l.steps;
  follows : (outcomes : ℕ → Outcome) (told : ℕ → List Change)
      → Follows outcomes told (procedures_of (theory_of l.theory)) l.fn.run.results 0 []
      (config_on l.fn.run l.fn.heap.grove)
      → Follows outcomes told (procedures_of (theory_of l.theory)) l.fn.run.results l.steps
      (map change_of l.changes.items) (config_on l.run l.heap.grove);
  heard : listeners_of g.O.Observer.face g.O.Observer.after g.O.Observer.says l.observers.items
      ≡ map (told_all (map change_of l.changes.items))
      (listeners_of g.O.Observer.face g.O.Observer.after g.O.Observer.says
      l.initial.observers.items);
}
