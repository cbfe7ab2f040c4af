-- The step is sound where the verdict is that it is an instance, and each formula has a row.
use Rattle.std.proofs.Common.{rules}
use Rattle.model_commands.specs.Theories.{nameless_judgement}
use Rattle.theory_syntax.specs.Judgements.{judgement_of, reason_of}
use Rattle.row_patterns.specs.Verdicts.{verdict_in}
use Rattle.cited_steps.specs.Earlier.{steps_in}
use Rattle.entail_kernel.specs.Steps.{EntailmentVerdict}
use Rattle.entail_kernel.proofs.Rows.{rows-of-step}
use Rattle.entail_kernel.proofs.Sound.{instance-sound}
use Rattle.entail_kernel.proofs.steps.check_entailment_in.Goals as goal

pub returns-clause-sound : goal.returns-clause-sound
returns-clause-sound c =
    let earlier = steps_in c.args.earlier.now in
    let reason = reason_of c.args.step.now.reason in
    let judgement = nameless_judgement (judgement_of c.args.step.now.judgement) in
    let exact : EntailmentVerdict earlier reason judgement
    (verdict_in c.in_ok-found.found.verdict) = search rules in
    instance-sound earlier reason judgement c.in_ok-found.found.verdict exact

pub returns-clause-rows : goal.returns-clause-rows
returns-clause-rows c =
    rows-of-step c.entailment_by.new.table (steps_in c.args.earlier.now) c.in-Rule.name
    c.in-Rule.premises c.as_slice-numbers.result.now c.in-Rule.arguments c.in-Entails.conclusion
    _ _ c.in-Rule.is c.in-Entails.is c.as_slice-numbers.ensures c.in_ok-found.found.verdict
    c.in_ok-found.ensures.rows
