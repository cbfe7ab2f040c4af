use Rattle.std.proofs.Common.{◌≡◌, ◌∙◌, List, Some, map, ap, subst, IfOk}
use Rattle.std.proofs.lemmas.Option.{same_Some}
use Rattle.model_commands.specs.Theories.{procedures_of}
use Rattle.model_limits.specs.Limits.{standard_limits}
use Rattle.model_machine.specs.Machine.{start}
use Rattle.model_machine.specs.Outcomes.{outcome}
use Rattle.model_terms.specs.Stores.{ProgVar}
use Rattle.dom_terms.specs.Terms.{prog_var_of}
use Rattle.dom_terms.specs.Values.{value_seen}
use Rattle.theory_syntax.specs.Theories.{procedure_of, theory_of}
use Rattle.domcheck_core.specs.Answers.{outcome_answer, outcome_on}
use Rattle.domcheck_core.proofs.Outcomes.{came_out}
use Rattle.domcheck_core.proofs.runs.plain_reply.Goals as goal

pub returns : goal.returns
returns c = λ p e document same.
    let here : c.in-Some.called.now ≡ p =
    same_Some c.in-Some.called.now p (c.in-Some.ensures.item ∙ e) in
    let theory = theory_of c.args.theory.now in
    let values = map value_seen c.args.call.values in
    let results : map prog_var_of c.as_slice.result.now ≡ (procedure_of p).results =
    ap (map prog_var_of) c.as_slice.ensures ∙ ap (λ z. (procedure_of z).results) here in
    let comes = outcome_on theory (procedure_of p) values c.args.fuel document in
    subst (λ (rs : List ProgVar). IfOk c.outcome_reply.result (λ r. outcome_answer rs comes
    ≡ Some (r.status, r.output))) results
    (c.outcome_reply.ensures comes
    (came_out (λ within. outcome standard_limits (procedures_of theory) (procedure_of p).results
    within 0 (start (procedure_of p) values document)) c.args.fuel c.run_heap-outcome.result
    c.run_heap-outcome.new.heap.grove (c.run_heap-outcome.ensures p e document same)))
