-- What is written at the step.
use Rattle.std.proofs.Common.{IfOk, sym, ap, subst, List, map}
use Rattle.std.proofs.lemmas.Result.{IfOk-weaker}
use Rattle.model_commands.specs.Theories.{nameless_judgement}
use Rattle.rule_table.specs.Accepted.{VerdictBy}
use Rattle.row_patterns.specs.Verdicts.{verdict_in}
use Rattle.dom_terms.specs.Terms.{term_of}
use Rattle.dom_terms.specs.declared.terms.Term.{Term}
use Rattle.theory_syntax.specs.declared.judgements.Judgement.{Judgement}
use Rattle.theory_syntax.specs.declared.steps.Reason.{Reason}
use Rattle.theory_syntax.specs.Judgements.{judgement_of, reason_of}
use Rattle.cited_steps.specs.Earlier.{steps_in}
use Rattle.entail_rules.specs.Numbers.{IsKnown}
use Rattle.triple_rules.specs.Procedures.{procedures_in}
use Rattle.hoare_kernel.proofs.RowsOfNames.{verdict-as}
use Rattle.hoare_kernel.proofs.verdicts.step_verdict.Goals as goal

pub returns-in-Entails-clause-exact : goal.returns-in-Entails-clause-exact
returns-in-Entails-clause-exact c =
    let ps = procedures_in c.args.callees.procedures.now in
    let earlier = steps_in c.args.earlier.now in
    let judgement = nameless_judgement (judgement_of c.args.step.now.judgement) in
    subst (λ (z : Reason). IfOk c.entailment_named.result
    (λ v. VerdictBy ps (reason_of z) earlier judgement (verdict_in v.verdict))) (sym c.in-Rule.is)
    (IfOk-weaker c.entailment_named.result _ _
    (λ v h. verdict-as ps _ _ _ _ _ _ earlier _ _ (verdict_in v.verdict)
    c.as_str-name.ensures c.as_slice-citations.ensures
    (ap (λ (z : List Term). map term_of z) c.as_slice-arguments.ensures)
    (ap (λ (z : Judgement). nameless_judgement (judgement_of z)) (sym c.in-Entails.is)) (h ps))
    c.entailment_named.ensures.exact)

pub returns-in-Entails-clause-numbers : goal.returns-in-Entails-clause-numbers
returns-in-Entails-clause-numbers c =
    IfOk-weaker c.entailment_named.result _ _
    (λ v h. subst (λ (z : Judgement). IsKnown c.entailment_named.new.table v.numbers
    (nameless_judgement (judgement_of z))) (sym c.in-Entails.is) h)
    c.entailment_named.ensures.numbers

pub returns-in_ok-verdict-in-Triple-clause-exact : goal.returns-in_ok-verdict-in-Triple-clause-exact
returns-in_ok-verdict-in-Triple-clause-exact c =
    let ps = procedures_in c.args.callees.procedures.now in
    let earlier = steps_in c.args.earlier.now in
    let judgement = nameless_judgement (judgement_of c.args.step.now.judgement) in
    let v = c.in_ok-verdict-in-Triple.verdict in
    subst (λ (z : Reason). VerdictBy ps (reason_of z) earlier judgement (verdict_in v))
    (sym c.in-Rule.is)
    (verdict-as ps _ _ _ _ _ _ earlier _ _ (verdict_in v)
    c.as_str-name.ensures c.as_slice-citations.ensures
    (ap (λ (z : List Term). map term_of z) c.as_slice-arguments.ensures)
    (ap (λ (z : Judgement). nameless_judgement (judgement_of z)) (sym c.in-Triple.is))
    c.in_ok-verdict-in-Triple.ensures.exact)
