use Rattle.std.proofs.Common.{◌≡◌, ◌∙◌, sym, ap, subst, arith, length, ◌-◌, Some}
use Rattle.std.proofs.lemmas.Result.{IfOk-weaker}
use Rattle.model_commands.specs.Theories.{nameless_judgement}
use Rattle.model_files.specs.Sizes.{JudgementIsSmall}
use Rattle.rule_table.specs.Accepted.{last_judgement}
use Rattle.theory_syntax.specs.declared.steps.Step.{Step}
use Rattle.theory_syntax.specs.Judgements.{judgement_of}
use Rattle.cited_steps.specs.Earlier.{steps_in}
use Rattle.hoare_kernel.proofs.Walks.{last_at, small_at}
use Rattle.gap_filling.proofs.GoodSteps.{ends_as}
use Rattle.gap_filling.proofs.judgements.ends_in.Goals as goal

pub same_judgement-requires-clause-left : goal.same_judgement-requires-clause-left
same_judgement-requires-clause-left c =
    subst (λ (z : Step). JudgementIsSmall (judgement_of z.judgement)) (sym c.last-item.is)
    (small_at c.args.steps.now c.last-item.result (length c.args.steps.now - 1)
    (omega (arith, c.in-len1-up.len_at_least)) c.requires.steps)

pub returns-in-len1-up : goal.returns-in-len1-up
returns-in-len1-up c =
    let last : last_judgement (steps_in c.args.steps.now)
    ≡ Some (nameless_judgement (judgement_of c.last-item.result.judgement)) =
    last_at c.args.steps.now c.last-item.result (length c.args.steps.now - 1)
    (omega (arith, c.in-len1-up.len_at_least))
    ∙ ap (λ (z : Step). Some (nameless_judgement (judgement_of z.judgement)))
    (sym c.last-item.is) in
    IfOk-weaker c.same_judgement.result _ _
    (λ b h. ends_as (last_judgement (steps_in c.args.steps.now))
    (nameless_judgement (judgement_of c.last-item.result.judgement))
    (nameless_judgement (judgement_of c.args.judgement.now)) last b h)
    c.same_judgement.ensures
