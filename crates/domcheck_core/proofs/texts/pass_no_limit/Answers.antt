use Rattle.std.proofs.Common.{Some, refl, arith}
use Rattle.domcheck_core.proofs.Tested.{limit_of_tokens, past_limit}
use Rattle.domcheck_core.proofs.texts.pass_no_limit.Goals as goal

pub returns-in-Some-clause-told : goal.returns-in-Some-clause-told
returns-in-Some-clause-told c =
    rw c.past-in-Some.ensures (past_limit c.in-Some.kind _
    (limit_of_tokens c.args.nesting c.args.bytes.now _ (Some c.in-Some.kind) (omega arith)
    (rw c.in-Some.is at c.in_ok-limit.ensures) refl))
