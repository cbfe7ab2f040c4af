use Rattle.std.proofs.Common.{◌≡◌, ◌+◌, drop, map}
use Rattle.model_files.specs.FileLimits.{step_count}
use Rattle.theory_syntax.specs.Theories.{procedure_of}
use Rattle.gap_filling.proofs.limits.has_few_steps.Given as goal

abbrev pub invariant-loop-procedure : goal.invariant-loop-procedure
invariant-loop-procedure l =
    step_count (map procedure_of l.procedures) + l.left
    ≡ 65535 + step_count (map procedure_of (drop l.procedure-index l.procedures))
