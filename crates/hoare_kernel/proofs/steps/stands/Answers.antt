-- What the verdict on a step tells.
use Rattle.std.proofs.Common.{◌+◌, length, sym, subst}
use Rattle.std.proofs.lemmas.Result.{on_ok_weaker, IfErr-weaker, IfOk-weaker}
use Rattle.model_commands.specs.Theories.{nameless_judgement}
use Rattle.theory_syntax.specs.Judgements.{judgement_of, reason_of}
use Rattle.cited_steps.specs.Earlier.{steps_in}
use Rattle.entail_rules.specs.Numbers.{IsKnown}
use Rattle.triple_rules.specs.Procedures.{procedures_in}
use Rattle.hoare_kernel.proofs.Walks.{instance_by, refused_by}
use Rattle.hoare_kernel.proofs.steps.stands.Goals as goal

pub returns-in_ok-found-in-Rule-clause-fine : goal.returns-in_ok-found-in-Rule-clause-fine
returns-in_ok-found-in-Rule-clause-fine c =
    on_ok_weaker c.judged.result
    (instance_by (procedures_in c.args.callees.procedures.now) (reason_of c.args.step.now.reason)
    (steps_in c.args.earlier.now) (nameless_judgement (judgement_of c.args.step.now.judgement))
    c.in_ok-found-in-Rule.found.verdict c.in_ok-found-in-Rule.ensures.exact) c.judged.ensures.fine

pub returns-in_ok-found-in-Rule-clause-bad : goal.returns-in_ok-found-in-Rule-clause-bad
returns-in_ok-found-in-Rule-clause-bad c =
    IfErr-weaker c.judged.result _ _
    (λ e h. refused_by (procedures_in c.args.callees.procedures.now)
    (reason_of c.args.step.now.reason) (steps_in c.args.earlier.now)
    (nameless_judgement (judgement_of c.args.step.now.judgement))
    c.in_ok-found-in-Rule.found.verdict c.in_ok-found-in-Rule.ensures.exact c.args.procedure
    (length c.args.earlier.now + 1) e h.0 h.1)
    c.judged.ensures.bad

pub returns-in_ok-found-in-Rule-clause-numbers : goal.returns-in_ok-found-in-Rule-clause-numbers
returns-in_ok-found-in-Rule-clause-numbers c =
    IfOk-weaker c.judged.result _ _
    (λ numbers h. subst (λ o. IsKnown c.step_verdict.new.table o
    (nameless_judgement (judgement_of c.args.step.now.judgement))) (sym h)
    c.in_ok-found-in-Rule.ensures.numbers)
    c.judged.ensures.numbers
