use Rattle.std.proofs.Common.{rules, ◌≡◌, List, [], map, subst}
use Rattle.model_commands.specs.Theories.{procedures_of}
use Rattle.model_limits.specs.Limits.{standard_limits}
use Rattle.model_machine.specs.Changes.{changes}
use Rattle.model_machine.specs.Machine.{Config}
use Rattle.model_machine.specs.Outcomes.{outcome}
use Rattle.model_shapes.specs.Shapes.{Shaped}
use Rattle.model_shapes.specs.Sorts.{shape, grove}
use Rattle.model_terms.specs.Stores.{ProgVar}
use Rattle.theory_syntax.specs.Theories.{procedure_of, theory_of}
use Rattle.heap_runner.specs.Answers.{Answers}
use Rattle.heap_runner.specs.RunViews.{config_on}
use Rattle.observer_lists.proofs.Heard.{told_none, told_all_first}
use Rattle.run_trace.specs.Changes.{change_of}
use Rattle.heap_tracer.specs.Traces.{Traces}
use Rattle.heap_tracer.proofs.Turns.{follows_start}
use Rattle.heap_tracer.proofs.tracing.trace_heap.Goals as goal

pub returns-in-Ok-clause-outcome : goal.returns-in-Ok-clause-outcome
returns-in-Ok-clause-outcome g c = λ started is roots same.
    let ps = procedures_of (theory_of c.args.theory.now) in
    let run = c.in-Ok.run' in
    let here = config_on run c.args.heap.now.grove in
    let whole : Shaped (shape grove) c.args.heap.now.grove = search rules in
    let fits = c.in-Ok.ensures.fits c.args.heap.now.grove whole in
    let both = c.trace_from.ensures.run _ _ (follows_start ps run.results here roots same fits) in
    let answers = λ (rs : List ProgVar) (there : Config). Answers (λ within. outcome
    standard_limits ps rs within 0 there) c.args.fuel c.trace_from.result.outcome
    c.trace_from.new.heap.grove in
    subst (answers (procedure_of started).results) (c.in-Ok.ensures.begins started is roots)
    (subst (λ (rs : List ProgVar). answers rs (config_on run roots))
    (c.in-Ok.ensures.results started is) both.0)

pub returns-in-Ok-clause-changes : goal.returns-in-Ok-clause-changes
returns-in-Ok-clause-changes g c = λ started is roots same.
    let ps = procedures_of (theory_of c.args.theory.now) in
    let run = c.in-Ok.run' in
    let here = config_on run c.args.heap.now.grove in
    let whole : Shaped (shape grove) c.args.heap.now.grove = search rules in
    let fits = c.in-Ok.ensures.fits c.args.heap.now.grove whole in
    let both = c.trace_from.ensures.run _ _ (follows_start ps run.results here roots same fits) in
    let traces = λ (rs : List ProgVar) (there : Config). Traces (λ within. outcome
    standard_limits ps rs within 0 there) (λ steps. changes ps steps 0 there) c.args.fuel
    c.trace_from.result.outcome c.trace_from.new.heap.grove
    (map change_of c.trace_from.result.changes.items) in
    subst (traces (procedure_of started).results) (c.in-Ok.ensures.begins started is roots)
    (subst (λ (rs : List ProgVar). traces rs (config_on run roots))
    (c.in-Ok.ensures.results started is) both.1)

pub returns-in-Err-clause-heard : goal.returns-in-Err-clause-heard
returns-in-Err-clause-heard g c =
    rw c.new.ensures.items (told_all_first [] _ _ (told_none _))
