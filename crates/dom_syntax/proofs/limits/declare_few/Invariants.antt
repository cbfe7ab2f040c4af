use Rattle.std.proofs.Common.{◌≡◌, drop, map}
use Rattle.model_files.specs.FileLimits.{variables_within}
use Rattle.theory_syntax.specs.Theories.{procedure_of}
use Rattle.dom_syntax.proofs.limits.declare_few.Given as goal

abbrev pub invariant-loop-procedure : goal.invariant-loop-procedure
invariant-loop-procedure l =
    variables_within (map procedure_of l.procedures)
    ≡ variables_within (map procedure_of (drop l.procedure-index l.procedures))
