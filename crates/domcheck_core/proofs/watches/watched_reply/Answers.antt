use Rattle.std.proofs.Common.{rules, ◌≡◌, ◌∙◌, ℕ, Some, None, map, ap, sym, refl, subst, IfOk, slice_get, option_map}
use Rattle.std.proofs.lemmas.Option.{same_Some, slice_get-map}
use Rattle.std.proofs.lemmas.Result.{IfOk-weaker}
use Rattle.model_shapes.specs.Shapes.{Shaped}
use Rattle.model_shapes.specs.Sorts.{shape, grove}
use Rattle.model_formulas.specs.WellSorted.{first_fault}
use Rattle.model_commands.specs.Theories.{procedures_of}
use Rattle.model_files.proofs.WellFormedTheories.{well-formed-bodies}
use Rattle.model_limits.specs.Limits.{standard_limits}
use Rattle.model_machine.specs.Fitting.{FitsConfig}
use Rattle.model_machine.specs.Machine.{start}
use Rattle.model_machine.specs.Outcomes.{outcome}
use Rattle.model_watch.specs.Watching.{is_met}
use Rattle.dom_terms.specs.Stores.{store_of}
use Rattle.dom_terms.specs.Values.{value_seen}
use Rattle.theory_syntax.specs.Theories.{procedure_of, theory_of}
use Rattle.theory_syntax.specs.declared.theories.Procedure.{Procedure}
use Rattle.heap_runner.proofs.BeginLaws.{starts_fit}
use Rattle.watch_laws.specs.WatchedStores.{before_store}
use Rattle.domcheck_core.specs.Answers.{outcome_on, judging_refusal, watched_answer}
use Rattle.domcheck_core.proofs.Ending.{ends-fit, results_fit}
use Rattle.domcheck_core.proofs.Headers.{pre-sorted, post-sorted}
use Rattle.domcheck_core.proofs.Outcomes.{came_out}
use Rattle.domcheck_core.proofs.Refusing.{weaker, told}
use Rattle.domcheck_core.proofs.Watching.{can_watch, limited_watch, judged_watch}
use Rattle.domcheck_core.proofs.watches.watched_reply.Goals as goal

pub judged-requires-clause-sorted : goal.judged-requires-clause-sorted
judged-requires-clause-sorted c =
    let theory = theory_of c.args.theory.now in
    let f = procedure_of c.in-Some.called.now in
    let there : slice_get theory.procedures c.args.call.procedure ≡ Some f =
    slice_get-map procedure_of c.args.theory.now.procedures c.args.call.procedure
    ∙ ap (option_map procedure_of) (sym c.in-Some.ensures.item) in
    subst (λ s. first_fault f.pre (shape s) ≡ None)
    (can_watch f c.in_default-pass_watchable.ensures.passes).0
    (pre-sorted theory c.requires.well_formed c.args.call.procedure f there)

pub judged_reply-requires-clause-sorted : goal.judged_reply-requires-clause-sorted
judged_reply-requires-clause-sorted c =
    let theory = theory_of c.args.theory.now in
    let f = procedure_of c.in-Some.called.now in
    let there : slice_get theory.procedures c.args.call.procedure ≡ Some f =
    slice_get-map procedure_of c.args.theory.now.procedures c.args.call.procedure
    ∙ ap (option_map procedure_of) (sym c.in-Some.ensures.item) in
    subst (λ s. first_fault f.post (shape s) ≡ None)
    (can_watch f c.in_default-pass_watchable.ensures.passes).0
    (post-sorted theory c.requires.well_formed c.args.call.procedure f there)

pub judged_reply-requires-clause-fits : goal.judged_reply-requires-clause-fits
judged_reply-requires-clause-fits c =
    let theory = theory_of c.args.theory.now in
    let called = c.in-Some.called.now in
    let f = procedure_of called in
    let values = map value_seen c.args.call.values in
    let roots = c.args.heap.grove in
    let here : called ≡ c.requires.procedure =
    same_Some called c.requires.procedure (c.in-Some.ensures.item ∙ c.requires.stands) in
    let whole : Shaped (shape grove) roots = search rules in
    let bodies = well-formed-bodies theory c.requires.well_formed in
    let begins = starts_fit c.args.theory.now c.args.call.procedure c.requires.procedure values
    c.requires.well_formed c.requires.stands c.requires.fit roots whole in
    let run = λ (within : ℕ). outcome standard_limits (procedures_of theory) f.results within 0
    (start f values roots) in
    results_fit standard_limits (procedures_of theory) bodies f.results run c.args.fuel
    c.run_heap-outcome.result c.run_heap-outcome.new.heap.grove
    (c.run_heap-outcome.ensures called (sym c.in-Some.ensures.item) roots
    (λ t. refl))
    (ends-fit standard_limits (procedures_of theory) bodies f.results c.args.fuel 0
    (start f values roots)
    (subst (λ (q : Procedure). FitsConfig (procedures_of theory)
    (start (procedure_of q) values roots)) (sym here) begins))

pub returns-in-Ok : goal.returns-in-Ok
returns-in-Ok c = λ p e document same.
    let theory = theory_of c.args.theory.now in
    let called = c.in-Some.called.now in
    let f = procedure_of called in
    let values = map value_seen c.args.call.values in
    let here : called ≡ p = same_Some called p (c.in-Some.ensures.item ∙ e) in
    let comes = outcome_on theory f values c.args.fuel document in
    let stored : store_of c.in_ok-store.store ≡ before_store f values =
    rw (c.as_slice.ensures, c.as_slice-2.ensures) at c.in_ok-store.ensures in
    let within : judging_refusal (before_store f values) document f.pre ≡ None =
    subst (λ s. judging_refusal s document f.pre ≡ None) stored
    (c.in-Ok.ensures.passes document same) in
    let met : is_met (before_store f values) document f.pre ≡ c.in-Ok.before =
    subst (λ s. is_met s document f.pre ≡ c.in-Ok.before) stored
    (c.in-Ok.ensures.met document same) in
    let came = came_out (λ (within : ℕ). outcome standard_limits (procedures_of theory) f.results
    within 0 (start f values document)) c.args.fuel c.run_heap-outcome.result
    c.run_heap-outcome.new.heap.grove
    (c.run_heap-outcome.ensures called (sym c.in-Some.ensures.item) document same) in
    subst (λ (q : Procedure). IfOk c.judged_reply.result (λ r. watched_answer (procedure_of q)
    values document (outcome_on theory (procedure_of q) values c.args.fuel document)
    ≡ Some (r.status, r.output))) here
    (IfOk-weaker c.judged_reply.result _ _
    (λ r h. judged_watch f values document comes c.in_default-pass_watchable.ensures.passes within
    c.in-Ok.before met (Some (r.status, r.output)) h)
    (c.judged_reply.ensures values stored comes came))

pub returns : goal.returns
returns c = λ p e document same.
    let theory = theory_of c.args.theory.now in
    let called = c.in-Some.called.now in
    let f = procedure_of called in
    let values = map value_seen c.args.call.values in
    let here : called ≡ p = same_Some called p (c.in-Some.ensures.item ∙ e) in
    let comes = outcome_on theory f values c.args.fuel document in
    let stored : store_of c.in_ok-store.store ≡ before_store f values =
    rw (c.as_slice.ensures, c.as_slice-2.ensures) at c.in_ok-store.ensures in
    subst (λ (q : Procedure). IfOk c.answered-in-Err-judged.result (λ r. watched_answer
    (procedure_of q) values document
    (outcome_on theory (procedure_of q) values c.args.fuel document)
    ≡ Some (r.status, r.output))) here
    (told (λ r. r.status) (λ r. r.output)
    (λ s o. watched_answer f values document comes ≡ Some (s, o)) c.in-Err-judged.why
    c.answered-in-Err-judged.result
    (weaker (λ s o. judging_refusal (store_of c.in_ok-store.store) document f.pre ≡ Some (s, o)) _
    c.in-Err-judged.why
    (λ s o q. limited_watch f values document comes
    c.in_default-pass_watchable.ensures.passes s o
    (subst (λ z. judging_refusal z document f.pre ≡ Some (s, o)) stored q))
    (c.in-Err-judged.ensures.told document same))
    c.answered-in-Err-judged.ensures)
