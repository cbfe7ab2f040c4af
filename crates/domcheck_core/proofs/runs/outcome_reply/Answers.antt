use Rattle.std.proofs.Common.{◌∙◌, map, ap}
use Rattle.std.proofs.lemmas.Result.{IfOk-weaker}
use Rattle.dom_terms.specs.Terms.{prog_var_of}
use Rattle.domcheck_core.specs.Answers.{outcome_answer}
use Rattle.domcheck_core.proofs.runs.outcome_reply.Goals as goal

pub returns-in-Ended : goal.returns-in-Ended
returns-in-Ended c = λ o came.
    let there = rw c.in-Ended.is at came in
    IfOk-weaker c.ended.result _ _
    (λ r h. ap (outcome_answer (map prog_var_of c.args.results.now)) there.1 ∙ h)
    (c.ended.ensures there.0 there.2)
