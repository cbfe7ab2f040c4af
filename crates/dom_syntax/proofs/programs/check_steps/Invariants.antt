use Rattle.std.proofs.Common.{◌≡◌, ◌+◌, ◌<◌, drop, length, map}
use Rattle.model_files.specs.FileFaults.{first_fault_at, steps_from}
use Rattle.theory_syntax.specs.Judgements.{step_of}
use Rattle.dom_syntax.specs.Scopes.{procedure_in, theory_in}
use Rattle.model_files.specs.Sizes.{StepsAreSmall}
use Rattle.dom_syntax.proofs.programs.check_steps.Given as goal

abbrev pub invariant-loop-step : goal.invariant-loop-step
invariant-loop-step l = record {
  at : l.place ≡ l.step-index;
  few : length l.step-items < 4294967295;
  small : StepsAreSmall (map step_of (drop l.step-index l.step-items));
  rest :
      first_fault_at (steps_from (theory_in l.scope.names.now) l.procedure (procedure_in l.scope) 1
      (procedure_in l.scope).proof)
      ≡ first_fault_at (steps_from (theory_in l.scope.names.now) l.procedure
      (procedure_in l.scope) (l.place + 1) (map step_of (drop l.step-index l.step-items)));
}
