use Rattle.std.proofs.Common.{◌≡◌, ◌+◌, drop, map}
use Rattle.theory_syntax.specs.Theories.{procedure_of}
use Rattle.model_files.specs.FileLimits.{step_count}
use Rattle.hoare_kernel.proofs.theories.count_steps.Given as goal

abbrev pub invariant-loop-procedure : goal.invariant-loop-procedure
invariant-loop-procedure l =
    step_count (map procedure_of l.procedures)
    ≡ l.count + step_count (map procedure_of (drop l.procedure-index l.procedures))
