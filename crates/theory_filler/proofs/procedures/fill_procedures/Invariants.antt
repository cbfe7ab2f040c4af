use Rattle.std.proofs.Common.{◌≡◌, ◌≤◌, drop, length, map}
use Rattle.model_files.specs.FileLimits.{step_count}
use Rattle.model_files.specs.Sizes.{ProceduresAreSmall}
use Rattle.theory_syntax.specs.Theories.{procedure_of, theory_of}
use Rattle.hoare_kernel.specs.Walks.{AreNumbered, EachSorted}
use Rattle.theory_filler.specs.Answers.{WereAsked}
use Rattle.theory_filler.proofs.Outcomes.{SoFar}
use Rattle.theory_filler.proofs.procedures.fill_procedures.Given as goal

-- what comes of the procedures that are left comes of all
abbrev pub invariant-loop-procedure : goal.invariant-loop-procedure
invariant-loop-procedure g l = record {
  within : l.procedure-index ≤ length l.procedures;
  at : l.number ≡ l.procedure-index;
  small : ProceduresAreSmall (map procedure_of (drop l.procedure-index l.procedures));
  numbered : AreNumbered (drop l.procedure-index l.procedures);
  sorted : EachSorted (drop l.procedure-index l.procedures);
  few : step_count (map procedure_of (drop l.procedure-index l.procedures)) ≤ 65535;
  walked : SoFar (theory_of l.theory) l.theory.procedures (g.F.Fillers.voices l.fn.fillers)
      l.procedure-index l.filled (g.F.Fillers.voices l.fillers);
  asked : WereAsked (g.F.Fillers.voices l.fn.fillers) (g.F.Fillers.voices l.fillers);
}
