-- The verdict is that at any step that cites nothing or something.
use Rattle.std.proofs.Common.{sym, subst, List}
use Rattle.std.proofs.lemmas.Result.{IfOk-weaker}
use Rattle.model_terms.specs.Terms.{Term}
use Rattle.rule_table.specs.Accepted.{cited}
use Rattle.rule_table.specs.Axioms.{axioms}
use Rattle.rule_table.specs.Verdicts.{IsVerdict, readings_in}
use Rattle.row_patterns.specs.Verdicts.{verdict_in}
use Rattle.small_axioms.specs.Steps.{judgement_of}
use Rattle.small_axioms.proofs.Exact.{cites-none, no-arguments}
use Rattle.small_axioms.proofs.verdicts.axiom_verdict.Goals as goal

pub returns-clause-exact : goal.returns-clause-exact
returns-clause-exact c =
    let numbers = c.args.citations.now in
    let none = no-arguments c.args.arguments.now (sym c.if-not-is_empty.ensures) in
    λ earlier. IfOk-weaker c.verdict_of.result _ _
    (λ verdict h. subst (λ (es : List Term). IsVerdict (readings_in axioms c.args.name.now)
    (record {
      arguments = es;
      premises = cited earlier numbers;
      conclusion = judgement_of c.args.triple.now;
    }) (verdict_in verdict)) (sym none)
    (h (cited earlier numbers) (cites-none earlier numbers _ c.is_empty-2.ensures)))
    c.verdict_of.ensures.ok
