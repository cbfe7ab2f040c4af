use Rattle.std.proofs.Common.{◌∙◌, ap, map}
use Rattle.theory_syntax.specs.Theories.{procedure_of}
use Rattle.work_maker.proofs.Makers.{pushed}
use Rattle.work_maker.proofs.procedures.makers.Goals as goal

pub loop-before-preserved : goal.loop-before-preserved
loop-before-preserved c =
    ap (map procedure_of) c.in_ok-push.ensures.ok
    ∙ pushed c.loop-before.procedures c.in_ok-maker.field-0 c.loop-before.before
    c.loop-before.invariant c.in_ok-maker.ensures
