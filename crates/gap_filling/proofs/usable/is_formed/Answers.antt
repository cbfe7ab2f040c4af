use Rattle.std.proofs.Common.{refl}
use Rattle.theory_syntax.specs.Judgements.{step_of}
use Rattle.theory_syntax.specs.Theories.{theory_of}
use Rattle.gap_filling.proofs.Formed.{formed, not-formed}
use Rattle.gap_filling.proofs.usable.is_formed.Goals as goal

pub returns-in-Ok : goal.returns-in-Ok
returns-in-Ok c = λ f at. (
  (λ t. formed (theory_of c.args.theory.now) f (step_of c.args.step.now) c.args.procedure
      c.args.step.now.number (c.in-Ok.ensures f at)),
  (λ h. refl),
)

pub returns-in-Err-BadProgram : goal.returns-in-Err-BadProgram
returns-in-Err-BadProgram c = λ f at. (
  (λ t. cc),
  (λ h. absurd (not-formed (theory_of c.args.theory.now) f (step_of c.args.step.now)
      c.args.procedure c.args.step.now.number c.in-Err-BadProgram.field-0
      c.in-Err-BadProgram.field-0-0 c.in-Err-BadProgram.field-0-1 c.in-Err-BadProgram.field-0-2
      c.in-Err-BadProgram.field-0-is (c.in-Err-BadProgram.ensures f at) h)),
)
