-- An instance is a sound step.
use Rattle.std.proofs.Common.{◌≡◌, List, ap, subst}
use Rattle.model_commands.specs.Theories.{Judgement, Reason, auto, by_rule, Step}
use Rattle.dom_terms.specs.declared.verdicts.Verdict.{Verdict}
use Rattle.dom_terms.specs.declared.verdicts.Verdict.TheVariants.{Instance}
use Rattle.row_patterns.specs.Verdicts.{verdict_in}
use Rattle.entailment_laws.specs.Judgements.{entailments_alone}
use Rattle.entailment_laws.specs.Steps.{IsSoundStep}
use Rattle.entailment_laws.proofs.Steps.{entailment-sound}
use Rattle.entail_kernel.specs.Steps.{EntailmentVerdict}

pub instance-sound : (earlier : List Step) (reason : Reason) (j : Judgement) (v : Verdict)
    → EntailmentVerdict earlier reason j (verdict_in v) → v ≡ Instance
    → IsSoundStep entailments_alone earlier reason j
instance-sound earlier auto j v h e = h
instance-sound earlier (by_rule name ns es) j v h e =
    entailment-sound name ns es earlier j
    (subst (EntailmentVerdict earlier (by_rule name ns es) j) (ap verdict_in e) h)
