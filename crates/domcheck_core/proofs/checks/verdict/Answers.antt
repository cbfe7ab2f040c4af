use Rattle.std.proofs.lemmas.Result.{IfOk-weaker}
use Rattle.rule_table.specs.Accepted.{no_proof}
use Rattle.theory_syntax.specs.Theories.{theory_of}
use Rattle.domcheck_core.specs.Answers.{CheckVerdict, says_yes, says_no}
use Rattle.domcheck_core.proofs.Judged.{said, same_line}
use Rattle.domcheck_core.proofs.Verdicts.{accepted_counts, bad-place}
use Rattle.domcheck_core.proofs.checks.verdict.Goals as goal

pub failure-requires : goal.failure-requires
failure-requires c =
    bad-place c.args.theory.now _ _ _
    (rw c.in-Err-Fails.field-0-is at c.in-Err-Fails.ensures.refused)

pub no_proof-requires : goal.no_proof-requires
no_proof-requires c =
    let first = rw c.in-Err-NoProof.field-0-is at c.in-Err-NoProof.ensures.refused in
    bad-place c.args.theory.now _ _ no_proof first.1

pub gap-requires : goal.gap-requires
gap-requires c =
    bad-place c.args.theory.now _ _ _
    (rw c.in-Err-Gap.field-0-is at c.in-Err-Gap.ensures.refused)

pub returns-in-Ok : goal.returns-in-Ok
returns-in-Ok c =
    said (λ r. r.status) (λ r. r.output) (CheckVerdict (theory_of c.args.theory.now)) _ _
    c.accepted.result (says_yes c.in-Ok.ensures.accepted)
    c.accepted.ensures.status
    (same_line (λ r. r.output) _ _ c.accepted.result (accepted_counts c.args.theory.now
    c.in-Ok.counts.procedures c.in-Ok.counts.steps c.in-Ok.ensures.counts.0
    c.in-Ok.ensures.counts.1) c.accepted.ensures.output)

pub returns-in-Err-Fails : goal.returns-in-Err-Fails
returns-in-Err-Fails c =
    let first = rw c.in-Err-Fails.field-0-is at c.in-Err-Fails.ensures.refused in
    IfOk-weaker c.failure.result _ _ (λ r h. says_no _ first h) c.failure.ensures

pub returns-in-Err-NoProof : goal.returns-in-Err-NoProof
returns-in-Err-NoProof c =
    let first = rw c.in-Err-NoProof.field-0-is at c.in-Err-NoProof.ensures.refused in
    IfOk-weaker c.no_proof.result _ _ (λ r h. says_no _ first.1 h) (c.no_proof.ensures first.0)

pub returns-in-Err-Gap : goal.returns-in-Err-Gap
returns-in-Err-Gap c =
    let first = rw c.in-Err-Gap.field-0-is at c.in-Err-Gap.ensures.refused in
    IfOk-weaker c.gap.result _ _ (λ r h. says_no _ first h) c.gap.ensures
