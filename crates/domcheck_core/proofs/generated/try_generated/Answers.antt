use Rattle.std.proofs.Common.{◌∙◌}
use Rattle.std.proofs.lemmas.Result.{IfOk-weaker}
use Rattle.domcheck_core.proofs.Trials.{generated_is_accepted}
use Rattle.domcheck_core.proofs.generated.try_generated.Goals as goal

pub returns-clause-status : goal.returns-clause-status
returns-clause-status c =
    IfOk-weaker c.check_bytes.result _ _ (λ r h. h.0)
    (c.check_bytes.ensures.exactly _ _
    (generated_is_accepted c.args.count c.requires.some c.requires.most c.as_bytes.result.now
    (c.as_bytes.ensures.value ∙ c.as_str.ensures ∙ c.in_ok-text.ensures)))

pub returns-clause-output : goal.returns-clause-output
returns-clause-output c =
    IfOk-weaker c.check_bytes.result _ _ (λ r h. h.1)
    (c.check_bytes.ensures.exactly _ _
    (generated_is_accepted c.args.count c.requires.some c.requires.most c.as_bytes.result.now
    (c.as_bytes.ensures.value ∙ c.as_str.ensures ∙ c.in_ok-text.ensures)))
