use Rattle.std.proofs.Common.{◌≡◌, ◌∙◌, ◌+◌, refl, sym, subst, map, arith}
use Rattle.model_commands.specs.Theories.{procedures_of}
use Rattle.theory_syntax.specs.Theories.{theory_of}
use Rattle.heap_runner.specs.RunViews.{config_on}
use Rattle.run_trace.specs.Changes.{change_of}
use Rattle.run_trace.specs.Listeners.{listeners_of}
use Rattle.observer_lists.proofs.Heard.{told_none}
use Rattle.heap_tracer.specs.Traces.{Follows}
use Rattle.heap_tracer.proofs.Turns.{heard_whole}
use Rattle.heap_tracer.proofs.tracing.trace_from.Goals as goal

pub loop-steps-init : goal.loop-steps-init
loop-steps-init g c = record {
  fits = c.requires.fits;
  results = refl;
  taken = c.requires.none;
  follows = λ outcomes told f. rw c.new-changes.ensures.items f;
  heard = rw c.new-changes.ensures.items (told_none _);
}

pub loop-steps-preserved : goal.loop-steps-preserved
loop-steps-preserved g c =
    let ps = procedures_of (theory_of c.args.theory.now) in
    let before = c.loop-steps.invariant in
    let here = config_on c.loop-steps.run c.loop-steps.heap.grove in
    let there = config_on c.turned-turn.new.run c.turned-turn.new.heap.grove in
    record {
      fits = c.in-Ok.ensures.fits;
      results = c.in-Ok.ensures.results ∙ before.results;
      taken = c.in-Ok.ensures.steps;
      follows = λ outcomes told f.
          subst (λ rs. Follows outcomes told ps rs (c.loop-steps.steps + 1)
          (map change_of c.turned-turn.new.changes.items) there) before.results
          (c.in-Ok.ensures.run outcomes told
          (subst (λ rs. Follows outcomes told ps rs c.loop-steps.steps
          (map change_of c.loop-steps.changes.items) here) (sym before.results)
          (before.follows outcomes told f)));
      heard = c.in-Ok.ensures.heard _ before.heard;
    }

pub returns-in-Err-clause-run : goal.returns-in-Err-clause-run
returns-in-Err-clause-run g c = λ outcomes told f.
    let ps = procedures_of (theory_of c.args.theory.now) in
    let before = c.loop-steps.invariant in
    let here = config_on c.loop-steps.run c.loop-steps.heap.grove in
    c.in-Err.ensures.run outcomes told
    (subst (λ rs. Follows outcomes told ps rs c.loop-steps.steps
    (map change_of c.loop-steps.changes.items) here) (sym before.results)
    (before.follows outcomes told f)) c.args.fuel (omega arith)

pub returns-clause-run : goal.returns-clause-run
returns-clause-run g c = λ outcomes told f.
    let ps = procedures_of (theory_of c.args.theory.now) in
    let before = c.loop-steps.invariant in
    let here = config_on c.loop-steps.run c.loop-steps.heap.grove in
    let changes = map change_of c.loop-steps.changes.items in
    let all : c.loop-steps.steps ≡ c.args.fuel = omega arith in
    c.spent-outcome.ensures outcomes told ps changes
    (subst (λ n. Follows outcomes told ps c.loop-steps.run.results n changes here) all
    (subst (λ rs. Follows outcomes told ps rs c.loop-steps.steps changes here)
    (sym before.results) (before.follows outcomes told f)))

pub returns-clause-heard : goal.returns-clause-heard
returns-clause-heard g c =
    heard_whole c.spent-outcome.result (map change_of c.loop-steps.changes.items) _ _
    c.loop-steps.invariant.heard
