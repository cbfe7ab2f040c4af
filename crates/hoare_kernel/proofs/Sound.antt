-- An instance holds by the number of steps.
use Rattle.std.proofs.Common.{◌≡◌, List, ap}
use Rattle.model_commands.specs.Theories.{Judgement, Reason, Step, Theory, procedures_of}
use Rattle.rule_table.specs.Accepted.{VerdictBy}
use Rattle.dom_terms.specs.declared.verdicts.Verdict.{Verdict}
use Rattle.dom_terms.specs.declared.verdicts.Verdict.TheVariants.{Instance}
use Rattle.row_patterns.specs.Verdicts.{verdict_in}
use Rattle.triple_laws.specs.Steps.{HoldsBySteps}
use Rattle.triple_laws.proofs.Theories.{step-holds}
use Rattle.hoare_kernel.proofs.Walks.{instance_by}

pub instance-sound : (theory : Theory) (earlier : List Step) (reason : Reason) (j : Judgement)
    (v : Verdict) → VerdictBy (procedures_of theory) reason earlier j (verdict_in v)
    → v ≡ Instance → HoldsBySteps theory earlier reason j
instance-sound theory earlier reason j v h e =
    step-holds theory earlier reason j
    (instance_by (procedures_of theory) reason earlier j v h (ap verdict_in e))
