use Rattle.rule_table.specs.Accepted.{fails}
use Rattle.row_patterns.specs.Verdicts.{verdict_in}
use Rattle.theory_syntax.specs.Theories.{theory_of}
use Rattle.domcheck_core.specs.Answers.{PlaceAnswer}
use Rattle.domcheck_core.proofs.Judged.{said}
use Rattle.domcheck_core.proofs.Verdicts.{the-step, the-rule, fail-answer}
use Rattle.domcheck_core.proofs.checks.failure.Goals as goal

pub procedure_at-procedure-requires : goal.procedure_at-procedure-requires
procedure_at-procedure-requires c = c.requires.0

pub step_at-step-requires : goal.step_at-step-requires
step_at-step-requires c =
    the-step c.args.theory.now c.args.procedure c.args.step c.requires.0
    c.procedure_at-procedure.result.now c.requires.1 c.procedure_at-procedure.ensures

pub rule_at-requires : goal.rule_at-requires
rule_at-requires c =
    the-rule c.args.theory.now c.args.procedure c.args.step c.requires.0
    c.procedure_at-procedure.result.now c.requires.1 c.step_at-step.result.now c.requires.2
    c.procedure_at-procedure.ensures c.step_at-step.ensures

pub returns : goal.returns
returns c =
    said (λ r. r.status) (λ r. r.output) (PlaceAnswer (theory_of c.args.theory.now)
    c.args.procedure c.args.step (fails (verdict_in c.args.verdict))) _ _ c.reported.result
    (fail-answer c.args.theory.now c.args.procedure c.args.step
    c.procedure_at-procedure.result.now c.procedure_at-procedure.ensures
    c.step_at-step.result.now c.step_at-step.ensures c.rule_at.result.now
    (verdict_in c.args.verdict) c.rule_at.ensures)
    c.reported.ensures.status
    (rw (c.in_ok-copy.ensures, c.in_ok-copy-2.ensures) at c.reported.ensures.output)
