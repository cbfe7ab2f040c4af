use Rattle.std.proofs.Common.{◌≡◌, map}
use Rattle.theory_syntax.specs.Theories.{procedure_of}
use Rattle.model_generator.specs.Generated.{makers}
use Rattle.work_maker.proofs.procedures.makers.Given as goal

abbrev pub invariant-loop-before : goal.invariant-loop-before
invariant-loop-before l = map procedure_of l.procedures ≡ makers 1 l.before
