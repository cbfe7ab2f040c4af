use Rattle.std.proofs.Common.{◌≡◌, ◌∙◌, Some, None, map, ap, sym, refl, subst}
use Rattle.std.proofs.lemmas.Result.{IfOk-weaker}
use Rattle.model_shapes.specs.Shapes.{SameAt}
use Rattle.model_shapes.specs.Sorts.{grove}
use Rattle.model_shapes.proofs.Shapes.{SameAt-sym}
use Rattle.model_machine.specs.Outcomes.{ends}
use Rattle.model_watch.specs.Watching.{is_met}
use Rattle.model_answers.specs.Output.{requires_line}
use Rattle.dom_terms.specs.Stores.{store_of}
use Rattle.dom_terms.specs.Values.{value_seen}
use Rattle.theory_syntax.specs.Theories.{procedure_of}
use Rattle.watch_laws.specs.WatchedStores.{with_values, after_store}
use Rattle.domcheck_core.specs.Answers.{outcome_answer, judging_refusal, judged_answer}
use Rattle.domcheck_core.proofs.Refusing.{weaker, told}
use Rattle.domcheck_core.proofs.Watching.{limited_end, judged_end}
use Rattle.domcheck_core.proofs.watches.ended_reply.Goals as goal

pub returns-in_ok-reply-in-Ok : goal.returns-in_ok-reply-in-Ok
returns-in_ok-reply-in-Ok c = λ arguments at left same.
    let f = procedure_of c.args.procedure.now in
    let results = map value_seen c.args.values in
    let reply = c.in_ok-reply-in-Ok.reply in
    let stored : store_of c.in_ok-store.store ≡ after_store f arguments results =
    (rw (c.as_slice-results.ensures, c.as_slice.ensures) at c.in_ok-store.ensures)
    ∙ ap (with_values f.results results) at in
    let back : SameAt grove left c.args.heap.now.grove =
    SameAt-sym grove c.args.heap.now.grove left same in
    let within : judging_refusal (after_store f arguments results) left f.post ≡ None =
    subst (λ s. judging_refusal s left f.post ≡ None) stored (c.in-Ok.ensures.passes left back) in
    let met : is_met (after_store f arguments results) left f.post ≡ c.in-Ok.after =
    subst (λ s. is_met s left f.post ≡ c.in-Ok.after) stored (c.in-Ok.ensures.met left back) in
    let own : outcome_answer f.results (ends c.args.steps results left)
    ≡ Some (reply.status, reply.output) =
    (rw c.as_slice-results.ensures at c.in_ok-reply-in-Ok.ensures)
    (ends c.args.steps results left) (left, refl, same) in
    IfOk-weaker c.between.result _ _
    (λ r h. judged_end (requires_line c.args.before) f arguments results c.args.steps left within
    c.in-Ok.after met (reply.status, reply.output) own ∙ ap Some (sym h))
    (rw (c.requires_line.ensures, c.ensures_line.ensures) at c.between.ensures)

pub returns-in-Err : goal.returns-in-Err
returns-in-Err c = λ arguments at left same.
    let f = procedure_of c.args.procedure.now in
    let results = map value_seen c.args.values in
    let stored : store_of c.in_ok-store.store ≡ after_store f arguments results =
    (rw (c.as_slice-results.ensures, c.as_slice.ensures) at c.in_ok-store.ensures)
    ∙ ap (with_values f.results results) at in
    let back : SameAt grove left c.args.heap.now.grove =
    SameAt-sym grove c.args.heap.now.grove left same in
    told (λ r. r.status) (λ r. r.output)
    (λ s o. judged_answer (requires_line c.args.before) f arguments
    (ends c.args.steps results left) ≡ Some (s, o)) c.in-Err.why c.answered.result
    (weaker (λ s o. judging_refusal (store_of c.in_ok-store.store) left f.post ≡ Some (s, o)) _
    c.in-Err.why
    (λ s o q. limited_end (requires_line c.args.before) f arguments results c.args.steps left s o
    (subst (λ z. judging_refusal z left f.post ≡ Some (s, o)) stored q))
    (c.in-Err.ensures.told left back))
    c.answered.ensures
