use Rattle.std.proofs.lemmas.Result.{IfOk-weaker}
use Rattle.rule_table.specs.Accepted.{no_proof}
use Rattle.model_filling.specs.Filled.{filled_limit}
use Rattle.theory_syntax.specs.Theories.{theory_of}
use Rattle.domcheck_core.specs.Answers.{FillVerdict, fills_too_much, cannot_fill}
use Rattle.domcheck_core.proofs.FilledPlaces.{failing-place}
use Rattle.domcheck_core.proofs.Judged.{said}
use Rattle.domcheck_core.proofs.Tested.{past_limit}
use Rattle.domcheck_core.proofs.fills.unfilled.Goals as goal

pub failure-requires : goal.failure-requires
failure-requires c =
    failing-place c.args.theory.now c.requires.0 _ _ _ (rw c.in-Fails.is at c.requires.1)

pub no_proof-requires : goal.no_proof-requires
no_proof-requires c =
    let bad = rw c.in-NoProof.is at c.requires.1 in
    failing-place c.args.theory.now c.requires.0 _ _ no_proof bad.1

pub gap-requires : goal.gap-requires
gap-requires c =
    failing-place c.args.theory.now c.requires.0 _ _ _ (rw c.in-Gap.is at c.requires.1)

pub returns-in-Fails : goal.returns-in-Fails
returns-in-Fails c = λ voices refused.
    let bad = rw c.in-Fails.is at refused in
    IfOk-weaker c.failure.result _ _ (λ r h. cannot_fill _ bad h) c.failure.ensures

pub returns-in-NoProof : goal.returns-in-NoProof
returns-in-NoProof c = λ voices refused.
    let bad = rw c.in-NoProof.is at refused in
    IfOk-weaker c.no_proof.result _ _ (λ r h. cannot_fill _ bad.1 h) (c.no_proof.ensures bad.0)

pub returns-in-Gap : goal.returns-in-Gap
returns-in-Gap c = λ voices refused.
    let bad = rw c.in-Gap.is at refused in
    IfOk-weaker c.gap.result _ _ (λ r h. cannot_fill _ bad h) c.gap.ensures

pub returns-in-Limit : goal.returns-in-Limit
returns-in-Limit c = λ voices refused.
    let past = rw c.in-Limit.is at refused in
    said (λ r. r.status) (λ r. r.output) (FillVerdict voices (theory_of c.args.theory.now)) _ _
    c.reported.result
    (fills_too_much past.0 past.1 (past_limit c.in-Limit.kind (filled_limit past.0) past.2))
    c.reported.ensures.status c.reported.ensures.output
