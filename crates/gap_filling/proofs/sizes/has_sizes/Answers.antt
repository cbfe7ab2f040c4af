use Rattle.std.proofs.Common.{◌∙◌, map, sym, ap, arith}
use Rattle.std.proofs.lemmas.List.{length-map}
use Rattle.theory_syntax.specs.Judgements.{step_of}
use Rattle.gap_filling.specs.declared.meters.Meter.{Meter}
use Rattle.gap_filling.proofs.Sized.{is-sized, sized-fits, sized-small, not-empty}
use Rattle.gap_filling.proofs.sizes.has_sizes.Goals as goal

pub returns-clause-sized : goal.returns-clause-sized
returns-clause-sized c = λ version.
    let steps = map step_of c.args.steps.now in
    let e = ap (λ (m : Meter). m.fits) (c.measure_steps.ensures.room version) in
    let many = length-map c.args.steps.now step_of in (
      (λ t. is-sized version steps c.measure_steps.ensures.small
          (omega (arith, many, not-empty c.args.steps.now c.if-is_empty.ensures))
          (omega (arith, many, c.if-steps-gt-MOST_STEPS.false)) (sym e ∙ t)),
      (λ s. e ∙ sized-fits version steps c.measure_steps.ensures.small s),
    )

pub returns-clause-small : goal.returns-clause-small
returns-clause-small c = λ t.
    sized-small 1 (map step_of c.args.steps.now)
    (sym (ap (λ (m : Meter). m.fits) (c.measure_steps.ensures.room 1)) ∙ t)
