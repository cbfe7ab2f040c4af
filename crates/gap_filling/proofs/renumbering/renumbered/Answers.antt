use Rattle.std.proofs.Common.{◌∙◌, sym, ap, subst, map}
use Rattle.model_commands.specs.Theories.{Reason}
use Rattle.model_filling.specs.Renumbering as filling
use Rattle.theory_syntax.specs.Judgements.{reason_of}
use Rattle.gap_filling.specs.Renumbered.{gap_of, HaveSameVerdicts}
use Rattle.gap_filling.proofs.HeldCitations.{same-verdicts}
use Rattle.gap_filling.proofs.renumbering.renumbered.Goals as goal

pub returns-clause-verdicts : goal.returns-clause-verdicts
returns-clause-verdicts c =
    let greater = filling.raised_reason (map gap_of c.args.gaps.now)
    (reason_of c.args.step.now.reason) in
    subst (λ (r : Reason). HaveSameVerdicts r greater)
    (sym (ap reason_of c.in_ok-reason-2.ensures.both.0 ∙ c.in_ok-reason.ensures))
    (same-verdicts greater)
