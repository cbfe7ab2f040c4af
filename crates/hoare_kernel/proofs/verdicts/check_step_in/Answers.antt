-- The step is sound where the verdict is that it is an instance.
use Rattle.std.proofs.Common.{rules}
use Rattle.model_commands.specs.Theories.{nameless_judgement, procedures_of}
use Rattle.rule_table.specs.Accepted.{VerdictBy}
use Rattle.row_patterns.specs.Verdicts.{verdict_in}
use Rattle.theory_syntax.specs.Judgements.{judgement_of, reason_of}
use Rattle.theory_syntax.specs.Theories.{theory_of}
use Rattle.cited_steps.specs.Earlier.{steps_in}
use Rattle.hoare_kernel.proofs.Sound.{instance-sound}
use Rattle.hoare_kernel.proofs.verdicts.check_step_in.Goals as goal

pub returns-in_ok-add_rows-in-Instance-clause-sound
    : goal.returns-in_ok-add_rows-in-Instance-clause-sound
returns-in_ok-add_rows-in-Instance-clause-sound c =
    let theory = theory_of c.args.theory.now in
    let earlier = steps_in c.args.earlier.now in
    let reason = reason_of c.args.step.now.reason in
    let judgement = nameless_judgement (judgement_of c.args.step.now.judgement) in
    let exact : VerdictBy (procedures_of theory) reason earlier judgement
    (verdict_in c.in_ok-found.found.verdict) = search rules in
    λ _. instance-sound theory earlier reason judgement c.in_ok-found.found.verdict exact
    c.in-Instance.is
