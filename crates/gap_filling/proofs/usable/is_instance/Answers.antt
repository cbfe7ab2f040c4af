use Rattle.model_commands.specs.Theories.{procedures_of, nameless_judgement}
use Rattle.theory_syntax.specs.Judgements.{judgement_of, reason_of}
use Rattle.theory_syntax.specs.Theories.{theory_of}
use Rattle.cited_steps.specs.Earlier.{steps_in}
use Rattle.row_patterns.specs.Verdicts.{verdict_in}
use Rattle.gap_filling.proofs.Formed.{instance-verdict, verdict-is}
use Rattle.gap_filling.proofs.usable.is_instance.Goals as goal

pub returns-in_default : goal.returns-in_default
returns-in_default c =
    let verdict = c.in_ok-verdict-in-Rule.verdict in record {
      exact = (
        (λ t. cc),
        (λ i. absurd (c.in_default.not-Instance (verdict-is verdict
            (instance-verdict (procedures_of (theory_of c.args.theory.now))
            (reason_of c.args.step.now.reason) (steps_in c.args.earlier.now)
            (nameless_judgement (judgement_of c.args.step.now.judgement)) (verdict_in verdict) i
            c.in_ok-verdict-in-Rule.ensures.exact)))),
      );
      kept = c.check_step_in.ensures.kept;
    }
