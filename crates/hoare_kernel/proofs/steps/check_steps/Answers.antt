-- A step that is an instance, and the first that is none.
use Rattle.std.proofs.Common.{◌≡◌, ◌+◌, sym, refl, ap, subst, arith, true, take, length, length-append, [], ◌∷◌, ◌++◌}
use Rattle.std.proofs.lemmas.List.{length-take-le}
use Rattle.model_files.specs.FileFaults.{judgement_sorted}
use Rattle.model_files.specs.Sizes.{JudgementIsSmall}
use Rattle.theory_syntax.specs.declared.steps.Step.{Step}
use Rattle.theory_syntax.specs.Judgements.{judgement_of}
use Rattle.cited_steps.specs.Earlier.{steps_in}
use Rattle.cited_steps.proofs.Numbers.{citable_before}
use Rattle.triple_rules.specs.Procedures.{procedures_in}
use Rattle.entail_kernel.specs.Known.{AreKnown}
use Rattle.entail_kernel.proofs.Known.{known-before, known-next}
use Rattle.hoare_kernel.specs.Walks.{StepsRefused}
use Rattle.hoare_kernel.proofs.Walks.{handed_out, passed_step, refused_step}
use Rattle.hoare_kernel.proofs.Walks.{small_at, sorted_at}
use Rattle.hoare_kernel.proofs.steps.check_steps.Goals as goal

pub stands-requires-clause-earlier : goal.stands-requires-clause-earlier
stands-requires-clause-earlier c =
    citable_before c.args.steps.now c.loop-place.place c.requires.citable

pub stands-requires-clause-small : goal.stands-requires-clause-small
stands-requires-clause-small c =
    subst (λ (z : Step). JudgementIsSmall (judgement_of z.judgement)) (sym c.index-steps-place.is)
    (small_at c.args.steps.now c.index-steps-place.result c.loop-place.place
    (omega (arith, c.loop-place-test.true)) c.requires.citable.small)

pub stands-requires-clause-sorted : goal.stands-requires-clause-sorted
stands-requires-clause-sorted c =
    subst (λ (z : Step). judgement_sorted (judgement_of z.judgement) ≡ true)
    (sym c.index-steps-place.is)
    (sorted_at c.args.steps.now c.index-steps-place.result c.loop-place.place
    (omega (arith, c.loop-place-test.true)) c.requires.sorted)

pub returns-in_err-numbers-clause-bad : goal.returns-in_err-numbers-clause-bad
returns-in_err-numbers-clause-bad c =
    let ps = procedures_in c.args.callees.procedures.now in
    handed_out (StepsRefused ps c.args.procedure (steps_in c.args.steps.now))
    c.from_residual.result c.in_err-numbers.field-0.0 c.from_residual.ensures.1
    (refused_step ps c.args.steps.now (take c.loop-place.place c.args.steps.now)
    c.index-steps-place.result c.index-steps-place.result c.loop-place.place
    (omega (arith, c.loop-place-test.true)) refl c.index-steps-place.is
    c.loop-place.invariant.instances c.args.procedure
    (length (take c.loop-place.place c.args.steps.now) + 1) c.in_err-numbers.field-0.0
    (ap (λ n. n + 1) (length-take-le c.loop-place.place c.args.steps.now
    (omega (arith, c.loop-place-test.true)))) c.in_err-numbers.ensures.bad)

pub stands-requires-clause-known : goal.stands-requires-clause-known
stands-requires-clause-known c =
    let earlier = take c.loop-place.place c.args.steps.now in
    subst (λ z. AreKnown c.loop-place.table z earlier) (sym c.as_slice.ensures.value)
    (known-before c.loop-place.table c.loop-place.known.items c.args.steps.now c.loop-place.place
    (omega (arith, c.loop-place.invariant.each)) c.loop-place.invariant.known)

pub loop-place-preserved : goal.loop-place-preserved
loop-place-preserved c =
    let known = c.loop-place.known.items in
    let o = c.in_ok-numbers.numbers in
    let more : c.keep.new.known.items ≡ known ++ o ∷ [] = c.in_ok-keep.ensures in
    let length-more : length (known ++ o ∷ []) ≡ length known + 1 = length-append known (o ∷ []) in
    let one-more : length c.keep.new.known.items ≡ length (known ++ o ∷ []) = ap length more in
    record {
      instances = passed_step (procedures_in c.args.callees.procedures.now) c.args.steps.now
          (take c.loop-place.place c.args.steps.now)
          c.index-steps-place.result c.index-steps-place.result c.loop-place.place
          (omega (arith, c.loop-place-test.true)) refl c.index-steps-place.is
          c.loop-place.invariant.instances c.in_ok-numbers.ensures.fine;
      each = omega (arith, one-more, length-more, c.loop-place.invariant.each);
      known = subst (λ z. AreKnown c.stands.new.table z c.args.steps.now) (sym more)
          (known-next c.loop-place.table c.stands.new.table c.stands.ensures.kept known
          c.args.steps.now o c.loop-place.place c.index-steps-place.result
          c.loop-place.invariant.each (omega (arith, c.loop-place-test.true))
          c.index-steps-place.is c.loop-place.invariant.known c.in_ok-numbers.ensures.numbers);
    }
