-- The verdict on the renumbered step, as a step of the walk.
use Rattle.std.proofs.Common.{◌≡◌, List, map, refl, subst}
use Rattle.model_commands.specs.Theories.{nameless_judgement, procedures_of}
use Rattle.rule_table.specs.Accepted.{VerdictBy}
use Rattle.model_filling.specs.Renumbering.{raised_reason, renumbered}
use Rattle.dom_terms.specs.declared.verdicts.Verdict.{Verdict}
use Rattle.row_patterns.specs.Verdicts.{verdict_in}
use Rattle.theory_syntax.specs.declared.steps.Step.{Step}
use Rattle.theory_syntax.specs.Judgements.{judgement_of, reason_of, step_of}
use Rattle.theory_syntax.specs.Theories.{theory_of}
use Rattle.cited_steps.specs.Earlier.{steps_in}
use Rattle.gap_filling.specs.Renumbered.{gap_of, held_step, HaveSameVerdicts}
use Rattle.gap_filling.specs.declared.renumbering.FilledGap.{FilledGap}
use Rattle.theory_filler.proofs.Written.{differs, written-orderly, written-leads, written-fails}
use Rattle.theory_filler.proofs.steps.add_written.Goals as goal

pub returns-in_ok-push-in-Instance-clause-orderly
    : goal.returns-in_ok-push-in-Instance-clause-orderly
returns-in_ok-push-in-Instance-clause-orderly c =
    let s = step_of c.args.step.now in
    let new = c.in_ok-new.new in
    let is = subst (λ (z : List FilledGap). step_of new ≡ held_step (renumbered (map gap_of z) s))
    c.as_slice.ensures c.in_ok-new.ensures.exact in
    let same = subst (λ (z : List FilledGap). HaveSameVerdicts (reason_of new.reason)
    (raised_reason (map gap_of z) s.reason)) c.as_slice.ensures c.in_ok-new.ensures.verdicts in
    written-orderly c.args.walked.now s new is same c.requires.walked c.requires.within
    (record { steps = c.push.new.self; gaps = c.args.walked.now.gaps })
    c.in_ok-push-in-Instance.ensures.ok refl c.requires.small

pub returns-in_ok-push-in-Instance-clause-leads : goal.returns-in_ok-push-in-Instance-clause-leads
returns-in_ok-push-in-Instance-clause-leads c = λ f at voices.
    let s = step_of c.args.step.now in
    let new = c.in_ok-new.new in
    let theory = theory_of c.args.theory.now in
    let is = subst (λ (z : List FilledGap). step_of new ≡ held_step (renumbered (map gap_of z) s))
    c.as_slice.ensures c.in_ok-new.ensures.exact in
    let same = subst (λ (z : List FilledGap). HaveSameVerdicts (reason_of new.reason)
    (raised_reason (map gap_of z) s.reason)) c.as_slice.ensures c.in_ok-new.ensures.verdicts in
    written-leads c.args.walked.now s new is same c.requires.walked c.requires.within theory f
    voices
    (subst (λ (v : Verdict). VerdictBy (procedures_of theory) (reason_of new.reason)
    (steps_in c.args.walked.now.steps) (nameless_judgement (judgement_of new.judgement))
    (verdict_in v)) c.in-Instance.is
    (subst (λ (z : List Step). VerdictBy (procedures_of theory) (reason_of new.reason)
    (steps_in z) (nameless_judgement (judgement_of new.judgement))
    (verdict_in c.in_ok-verdict.verdict)) c.as_slice-2.ensures c.in_ok-verdict.ensures.exact))
    (record { steps = c.push.new.self; gaps = c.args.walked.now.gaps })
    c.in_ok-push-in-Instance.ensures.ok refl

pub returns-in-Shape-clause-bad : goal.returns-in-Shape-clause-bad
returns-in-Shape-clause-bad c = λ f at voices.
    let s = step_of c.args.step.now in
    let new = c.in_ok-new.new in
    let theory = theory_of c.args.theory.now in
    let is = subst (λ (z : List FilledGap). step_of new ≡ held_step (renumbered (map gap_of z) s))
    c.as_slice.ensures c.in_ok-new.ensures.exact in
    let same = subst (λ (z : List FilledGap). HaveSameVerdicts (reason_of new.reason)
    (raised_reason (map gap_of z) s.reason)) c.as_slice.ensures c.in_ok-new.ensures.verdicts in
    written-fails c.args.walked.now s new is same c.requires.walked c.requires.within theory f
    voices c.in_ok-verdict.verdict c.args.procedure
    (subst (λ (z : List Step). VerdictBy (procedures_of theory) (reason_of new.reason)
    (steps_in z) (nameless_judgement (judgement_of new.judgement))
    (verdict_in c.in_ok-verdict.verdict)) c.as_slice-2.ensures c.in_ok-verdict.ensures.exact)
    (differs c.in_ok-verdict.verdict c.in-Shape.is)
