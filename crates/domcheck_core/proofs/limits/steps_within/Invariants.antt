use Rattle.std.proofs.Common.{◌≡◌, ◌≤◌, ◌+◌, length, map}
use Rattle.theory_syntax.specs.Theories.{procedure_of}
use Rattle.model_files.specs.FileLimits.{step_count}
use Rattle.domcheck_core.proofs.limits.steps_within.Given as goal

abbrev pub invariant-procedures : goal.invariant-procedures
invariant-procedures l = record {
  same : step_count (map procedure_of l.procedures) + l.left ≡ 65535 + step_count
      (map procedure_of l.rest);
  few : l.left ≤ 65535;
}

abbrev pub decreases-procedures : goal.decreases-procedures
decreases-procedures l = length l.rest
