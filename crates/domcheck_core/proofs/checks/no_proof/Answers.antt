use Rattle.rule_table.specs.Accepted.{no_proof}
use Rattle.theory_syntax.specs.Theories.{theory_of}
use Rattle.domcheck_core.specs.Answers.{PlaceAnswer}
use Rattle.domcheck_core.proofs.Judged.{said}
use Rattle.domcheck_core.proofs.Verdicts.{end-answer}
use Rattle.domcheck_core.proofs.checks.no_proof.Goals as goal

pub returns : goal.returns
returns c = λ step.
    said (λ r. r.status) (λ r. r.output) (PlaceAnswer (theory_of c.args.theory.now)
    c.args.procedure step no_proof) _ _ c.reported.result
    (end-answer c.args.theory.now c.args.procedure step c.procedure_at.result.now
    c.procedure_at.ensures)
    c.reported.ensures.status (rw c.in_ok-procedure.ensures at c.reported.ensures.output)
