use Rattle.rule_table.specs.Accepted.{gap}
use Rattle.theory_syntax.specs.Theories.{theory_of}
use Rattle.domcheck_core.specs.Answers.{PlaceAnswer}
use Rattle.domcheck_core.proofs.Judged.{said}
use Rattle.domcheck_core.proofs.Verdicts.{the-step, gap-answer}
use Rattle.domcheck_core.proofs.checks.gap.Goals as goal

pub procedure_at-procedure-requires : goal.procedure_at-procedure-requires
procedure_at-procedure-requires c = c.requires.0

pub step_at-step-requires : goal.step_at-step-requires
step_at-step-requires c =
    the-step c.args.theory.now c.args.procedure c.args.step c.requires.0
    c.procedure_at-procedure.result.now c.requires.1 c.procedure_at-procedure.ensures

pub returns : goal.returns
returns c =
    said (λ r. r.status) (λ r. r.output) (PlaceAnswer (theory_of c.args.theory.now)
    c.args.procedure c.args.step gap) _ _ c.reported.result
    (gap-answer c.args.theory.now c.args.procedure c.args.step
    c.procedure_at-procedure.result.now c.procedure_at-procedure.ensures
    c.step_at-step.result.now c.step_at-step.ensures)
    c.reported.ensures.status (rw c.in_ok-copy.ensures at c.reported.ensures.output)
