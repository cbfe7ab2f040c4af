-- An instance of an axiom holds in every context.
use Rattle.std.proofs.Common.{◌≡◌, ap, subst}
use Rattle.model_shapes.specs.Values.{Name}
use Rattle.model_commands.specs.Theories.{Judgement}
use Rattle.rule_table.specs.Axioms.{axioms}
use Rattle.rule_table.specs.Verdicts.{IsVerdict, readings_in}
use Rattle.dom_terms.specs.declared.verdicts.Verdict.{Verdict}
use Rattle.dom_terms.specs.declared.verdicts.Verdict.TheVariants.{Instance}
use Rattle.row_patterns.specs.Verdicts.{verdict_in}
use Rattle.triple_laws.specs.Steps.{HoldsAnywhere}
use Rattle.triple_laws.proofs.Theories.{axiom-anywhere}
use Rattle.small_axioms.specs.Steps.{step_of}

pub instance-sound : (name : Name) (j : Judgement) (v : Verdict)
    → IsVerdict (readings_in axioms name) (step_of j) (verdict_in v) → v ≡ Instance
    → HoldsAnywhere j
instance-sound name j v h e =
    axiom-anywhere name (step_of j)
    (subst (IsVerdict (readings_in axioms name) (step_of j)) (ap verdict_in e) h)
