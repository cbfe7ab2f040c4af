use Rattle.std.proofs.Common.{◌≡◌, ◌+◌, ◌-◌, ◌≤◌, length, Some, slice_get}
use Rattle.model_formulas.specs.Formulas.{Named}
use Rattle.model_commands.specs.Theories.{ProcedureOf}
use Rattle.theory_syntax.specs.Theories.{theory_of}
use Rattle.theory_filler.specs.Answers.{WereAsked}
use Rattle.theory_filler.specs.Walks.{IsOrderly}
use Rattle.theory_filler.proofs.WholeWalks.{SoFar}
use Rattle.theory_filler.proofs.walks.walk.Given as goal

-- what comes of the steps that are left comes of all
abbrev pub invariant-loop-step : goal.invariant-loop-step
invariant-loop-step g l = record {
  within : l.step-index ≤ length l.written;
  orderly : IsOrderly l.walked (l.step-index + 1);
  leads : (f : ProcedureOf Named)
      → slice_get (theory_of l.theory).procedures (l.procedure - 1) ≡ Some f
      → SoFar (theory_of l.theory) f l.written (g.F.Fillers.voices l.fn.fillers) l.step-index
      l.walked (g.F.Fillers.voices l.fillers);
  asked : WereAsked (g.F.Fillers.voices l.fn.fillers) (g.F.Fillers.voices l.fillers);
}
