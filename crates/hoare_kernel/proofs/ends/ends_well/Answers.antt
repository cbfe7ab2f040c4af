use Rattle.std.proofs.Common.{◌≡◌, ◌∙◌, sym, ap, subst, arith, map, length, ◌-◌, Some, List}
use Rattle.std.proofs.lemmas.Result.{IfOk-weaker}
use Rattle.model_commands.specs.Theories.{nameless_judgement, nameless_procedure}
use Rattle.model_files.specs.Sizes.{JudgementIsSmall, StepsAreSmall}
use Rattle.rule_table.specs.Accepted.{last_judgement}
use Rattle.theory_syntax.specs.declared.steps.Step.{Step}
use Rattle.theory_syntax.specs.Judgements.{step_of, judgement_of}
use Rattle.theory_syntax.specs.Theories.{procedure_of}
use Rattle.cited_steps.specs.Earlier.{steps_in}
use Rattle.hoare_kernel.proofs.Walks.{last_at, small_at, ends_as}
use Rattle.hoare_kernel.proofs.ends.ends_well.Goals as goal

pub is_own_triple-requires-clause-judgement : goal.is_own_triple-requires-clause-judgement
is_own_triple-requires-clause-judgement c =
    subst (λ (z : Step). JudgementIsSmall (judgement_of z.judgement)) (sym c.last-item.is)
    (small_at c.as_slice.result.now c.last-item.result (length c.as_slice.result.now - 1)
    (omega (arith, c.in-len1-up.len_at_least))
    (subst (λ (z : List Step). StepsAreSmall (map step_of z)) (sym c.as_slice.ensures)
    c.requires.2))

pub returns-in-len1-up : goal.returns-in-len1-up
returns-in-len1-up c =
    let last : last_judgement (steps_in c.as_slice.result.now)
    ≡ Some (nameless_judgement (judgement_of c.last-item.result.judgement)) =
    last_at c.as_slice.result.now c.last-item.result (length c.as_slice.result.now - 1)
    (omega (arith, c.in-len1-up.len_at_least))
    ∙ ap (λ (z : Step). Some (nameless_judgement (judgement_of z.judgement)))
    (sym c.last-item.is) in
    let own : last_judgement (steps_in c.args.procedure.now.proof)
    ≡ Some (nameless_judgement (judgement_of c.last-item.result.judgement)) =
    subst (λ (z : List Step). last_judgement (steps_in z)
    ≡ Some (nameless_judgement (judgement_of c.last-item.result.judgement))) c.as_slice.ensures
    last in
    IfOk-weaker c.is_own_triple.result _ _
    (λ b h. ends_as (nameless_procedure (procedure_of c.args.procedure.now)) _ own b h)
    c.is_own_triple.ensures
