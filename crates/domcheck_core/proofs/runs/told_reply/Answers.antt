use Rattle.std.proofs.Common.{◌≡◌, ◌∙◌, ℕ, map, ap}
use Rattle.std.proofs.lemmas.Option.{same_Some}
use Rattle.model_commands.specs.Theories.{procedures_of}
use Rattle.model_limits.specs.Limits.{standard_limits}
use Rattle.model_machine.specs.Machine.{start}
use Rattle.model_machine.specs.Outcomes.{outcome}
use Rattle.dom_terms.specs.Terms.{prog_var_of}
use Rattle.dom_terms.specs.Values.{value_seen}
use Rattle.theory_syntax.specs.Theories.{procedure_of, theory_of}
use Rattle.domcheck_core.specs.Answers.{outcome_on, changes_on}
use Rattle.domcheck_core.proofs.Hearing.{grove_heard}
use Rattle.domcheck_core.proofs.Outcomes.{came_out, traced_on}
use Rattle.domcheck_core.proofs.runs.told_reply.Goals as goal

pub returns-clause-answer : goal.returns-clause-answer
returns-clause-answer g c = λ p e document same.
    let here : c.in-Some.called.now ≡ p =
    same_Some c.in-Some.called.now p (c.in-Some.ensures.item ∙ e) in
    let theory = theory_of c.args.theory.now in
    let values = map value_seen c.args.call.values in
    let results : map prog_var_of c.as_slice.result.now ≡ (procedure_of p).results =
    ap (map prog_var_of) c.as_slice.ensures ∙ ap (λ z. (procedure_of z).results) here in
    let run = λ (within : ℕ). outcome standard_limits (procedures_of theory)
    (procedure_of p).results
    within 0 (start (procedure_of p) values document) in
    let comes = outcome_on theory (procedure_of p) values c.args.fuel document in
    let told = changes_on theory (procedure_of p) values document in
    traced_on (λ r. (r.status, r.output)) _ told _ _ comes c.traced_reply.result results
    (c.traced_reply.ensures comes
    (came_out run c.args.fuel c.trace_heap-traced.result.outcome
    c.trace_heap-traced.new.heap.grove
    (c.trace_heap-traced.ensures.outcome p e document same))
    run told c.args.fuel (c.trace_heap-traced.ensures.changes p e document same) _
    c.trace_heap-traced.ensures.heard)

pub returns-clause-heard : goal.returns-clause-heard
returns-clause-heard g c = λ p e document same passes.
    let here : c.in-Some.called.now ≡ p =
    same_Some c.in-Some.called.now p (c.in-Some.ensures.item ∙ e) in
    let theory = theory_of c.args.theory.now in
    let values = map value_seen c.args.call.values in
    let results : map prog_var_of c.as_slice.result.now ≡ (procedure_of p).results =
    ap (map prog_var_of) c.as_slice.ensures ∙ ap (λ z. (procedure_of z).results) here in
    let run = λ (within : ℕ). outcome standard_limits (procedures_of theory)
    (procedure_of p).results
    within 0 (start (procedure_of p) values document) in
    let traces = c.trace_heap-traced.ensures.changes p e document same in
    let came = came_out run c.args.fuel c.trace_heap-traced.result.outcome
    c.trace_heap-traced.new.heap.grove
    (c.trace_heap-traced.ensures.outcome p e document same) in
    let comes = outcome_on theory (procedure_of p) values c.args.fuel document in
    let told = changes_on theory (procedure_of p) values document in
    grove_heard theory (procedure_of p) values c.args.fuel document
    c.trace_heap-traced.new.heap.grove _ _ _ (map prog_var_of c.as_slice.result.now)
    c.trace_heap-traced.result.outcome c.traced_reply.result passes
    (traced_on (λ r. (r.status, r.output)) _ told _ _ comes c.traced_reply.result results
    (c.traced_reply.ensures comes came run told c.args.fuel traces _
    c.trace_heap-traced.ensures.heard))
    came traces c.trace_heap-traced.ensures.heard
    (λ o out. c.traced_reply.ensures o out run told c.args.fuel traces _
    c.trace_heap-traced.ensures.heard)
