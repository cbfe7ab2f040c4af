use Rattle.std.proofs.Common.{sym, ap, subst, arith}
use Rattle.model_files.specs.Sizes.{JudgementIsSmall}
use Rattle.theory_syntax.specs.declared.steps.Step.{Step}
use Rattle.theory_syntax.specs.Judgements.{judgement_of}
use Rattle.cited_steps.proofs.Numbers.{citable_before}
use Rattle.hoare_kernel.proofs.Walks.{small_at}
use Rattle.gap_filling.proofs.GoodSteps.{numbered-at}
use Rattle.gap_filling.proofs.usable.are_good.Goals as goal

pub is_good-requires-clause-earlier : goal.is_good-requires-clause-earlier
is_good-requires-clause-earlier c =
    citable_before c.args.proof.now c.loop-place.place c.requires.proof

pub is_good-requires-clause-place : goal.is_good-requires-clause-place
is_good-requires-clause-place c =
    let at = numbered-at c.args.proof.now c.index-proof-place.result c.loop-place.place 1
    (omega (arith, c.loop-place-test.true)) c.requires.proof.in_order in
    omega (arith, at, ap (λ (z : Step). z.number) c.index-proof-place.is)

pub is_good-requires-clause-small : goal.is_good-requires-clause-small
is_good-requires-clause-small c =
    subst (λ (z : Step). JudgementIsSmall (judgement_of z.judgement)) (sym c.index-proof-place.is)
    (small_at c.args.proof.now c.index-proof-place.result c.loop-place.place
    (omega (arith, c.loop-place-test.true)) c.requires.proof.small)
