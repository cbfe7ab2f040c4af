-- A walk goes on, or ends at the first place that fails.
use Rattle.std.proofs.Common.{◌≡◌, ◌+◌, true, sym, ap, subst, arith, rules}
use Rattle.model_files.specs.FileFaults.{judgement_sorted}
use Rattle.model_files.specs.Sizes.{JudgementIsSmall}
use Rattle.theory_syntax.specs.declared.steps.Step.{Step}
use Rattle.theory_syntax.specs.Judgements.{judgement_of}
use Rattle.theory_syntax.specs.Theories.{theory_of}
use Rattle.hoare_kernel.proofs.Walks.{small_at, sorted_at}
use Rattle.theory_filler.specs.Faults.{Told}
use Rattle.theory_filler.specs.Walks.{IsOrderly, WalkFails}
use Rattle.theory_filler.proofs.WholeWalks.{handed_out, number-at, so-far-next, so-far-fails}
use Rattle.theory_filler.proofs.Turns.{were-none, were-then}
use Rattle.theory_filler.proofs.walks.walk.Goals as goal

pub add_step-requires-clause-walked : goal.add_step-requires-clause-walked
add_step-requires-clause-walked g c =
    let at = number-at c.args.written.now c.step-item.result c.loop-step.step-index 1
    (omega (arith, c.loop-step-test.true)) c.requires.citable.in_order in
    let same = ap (λ (z : Step). z.number) c.step-item.is in
    subst (IsOrderly c.loop-step.walked) (omega (arith, at, same)) c.loop-step.invariant.orderly

pub add_step-requires-clause-within : goal.add_step-requires-clause-within
add_step-requires-clause-within g c =
    let at = number-at c.args.written.now c.step-item.result c.loop-step.step-index 1
    (omega (arith, c.loop-step-test.true)) c.requires.citable.in_order in
    let same = ap (λ (z : Step). z.number) c.step-item.is in
    omega (arith, at, same, c.loop-step-test.true, c.requires.few)

pub add_step-requires-clause-small : goal.add_step-requires-clause-small
add_step-requires-clause-small g c =
    subst (λ (z : Step). JudgementIsSmall (judgement_of z.judgement)) (sym c.step-item.is)
    (small_at c.args.written.now c.step-item.result c.loop-step.step-index
    (omega (arith, c.loop-step-test.true)) c.requires.citable.small)

pub add_step-requires-clause-sorted : goal.add_step-requires-clause-sorted
add_step-requires-clause-sorted g c =
    subst (λ (z : Step). judgement_sorted (judgement_of z.judgement) ≡ true) (sym c.step-item.is)
    (sorted_at c.args.written.now c.step-item.result c.loop-step.step-index
    (omega (arith, c.loop-step-test.true)) c.requires.sorted)

pub returns-in_err-add_step-clause-bad : goal.returns-in_err-add_step-clause-bad
returns-in_err-add_step-clause-bad g c = λ f in_theory.
    let theory = theory_of c.args.theory.now in
    let voices = g.F.Fillers.voices c.args.fillers.now in
    let at = number-at c.args.written.now c.step-item.result c.loop-step.step-index 1
    (omega (arith, c.loop-step-test.true)) c.requires.citable.in_order in
    let same = ap (λ (z : Step). z.number) c.step-item.is in
    let e = c.in_err-add_step.field-0.0 in
    handed_out (Told (WalkFails theory f c.args.written.now voices c.args.procedure))
    c.from_residual.result e c.from_residual.ensures.1
    (so-far-fails theory f c.args.written.now voices c.loop-step.step-index c.step-item.result
    (omega (arith, c.loop-step-test.true)) c.step-item.is (omega (arith, at, same))
    c.loop-step.walked (g.F.Fillers.voices c.loop-step.fillers)
    (c.loop-step.invariant.leads f in_theory) c.args.procedure e
    (c.in_err-add_step.ensures.bad f in_theory))

pub returns-in_err-add_step-clause-asked : goal.returns-in_err-add_step-clause-asked
returns-in_err-add_step-clause-asked g c =
    were-then (g.F.Fillers.voices c.args.fillers.now) (g.F.Fillers.voices c.loop-step.fillers)
    (g.F.Fillers.voices c.add_step.new.fillers) c.loop-step.invariant.asked c.add_step.ensures.asked

pub loop-step-init : goal.loop-step-init
loop-step-init g c = record {
  within = search rules;
  orderly = search rules;
  leads = search rules;
  asked = were-none (g.F.Fillers.voices c.args.fillers.now);
}

pub loop-step-preserved : goal.loop-step-preserved
loop-step-preserved g c =
    let theory = theory_of c.args.theory.now in
    let voices = g.F.Fillers.voices c.args.fillers.now in
    let at = number-at c.args.written.now c.step-item.result c.loop-step.step-index 1
    (omega (arith, c.loop-step-test.true)) c.requires.citable.in_order in
    let same = ap (λ (z : Step). z.number) c.step-item.is in
    let number : c.step-item.result.number ≡ c.loop-step.step-index + 1 =
    omega (arith, at, same) in
    record {
      within = omega (arith, c.loop-step-test.true);
      orderly = subst (IsOrderly c.add_step.new.walked) (ap (λ n. n + 1) number)
          c.in_ok-add_step.ensures.orderly;
      leads = λ f in_theory. so-far-next theory f c.args.written.now voices c.loop-step.step-index
          c.step-item.result (omega (arith, c.loop-step-test.true)) c.step-item.is number
          c.loop-step.walked (g.F.Fillers.voices c.loop-step.fillers)
          (c.loop-step.invariant.leads f in_theory) c.add_step.new.walked
          (g.F.Fillers.voices c.add_step.new.fillers)
          (c.in_ok-add_step.ensures.leads f in_theory);
      asked = were-then voices (g.F.Fillers.voices c.loop-step.fillers)
          (g.F.Fillers.voices c.add_step.new.fillers) c.loop-step.invariant.asked
          c.add_step.ensures.asked;
    }
