use Rattle.std.proofs.Common.{◌≡◌, ℕ}
use Rattle.model_commands.specs.Theories.{procedures_of}
use Rattle.model_machine.specs.Fitting.{FitsConfig}
use Rattle.model_machine.specs.Outcomes.{Outcome}
use Rattle.theory_syntax.specs.Theories.{theory_of}
use Rattle.heap_runner.specs.RunViews.{config_on}
use Rattle.heap_runner.specs.Reached.{Reached}
use Rattle.heap_runner.proofs.runs.run_from.Given as goal

abbrev pub invariant-loop-steps : goal.invariant-loop-steps
invariant-loop-steps l = record {
  fits : FitsConfig (procedures_of (theory_of l.theory)) (config_on l.run l.heap.grove);
  results : l.run.results ≡ l.fn.run.results;
  taken : l.run.steps ≡ l.steps;
  reached : (runs : ℕ → Outcome)
      → Reached runs (procedures_of (theory_of l.theory)) l.fn.run.results 0
      (config_on l.fn.run l.fn.heap.grove)
      → Reached runs (procedures_of (theory_of l.theory)) l.fn.run.results l.steps
      (config_on l.run l.heap.grove);
}
