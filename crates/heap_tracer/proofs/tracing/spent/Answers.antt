use Rattle.std.proofs.Common.{rules, ◌≡◌, [], ap, map, arith}
use Rattle.dom_meaning.specs.Configs.{piece_of}
use Rattle.heap_runner.specs.RunViews.{config_on}
use Rattle.heap_runner.proofs.OutcomeLaws.{some_pending}
use Rattle.heap_tracer.proofs.Turns.{follows_spent, follows_end, follows_refusal}
use Rattle.heap_tracer.proofs.tracing.spent.Goals as goal

pub returns-then-not-is_done : goal.returns-then-not-is_done
returns-then-not-is_done c = λ outcomes told ps so_far f.
    let run = c.args.run.now in
    let some : run.pending ≡ [] → ⊥ = search rules in
    follows_spent outcomes told ps run.results c.args.fuel so_far
    (config_on run c.args.heap.now.grove) f (some_pending run.pending some)

pub returns-in-Ok : goal.returns-in-Ok
returns-in-Ok c = λ outcomes told ps so_far f.
    let run = c.args.run.now in
    let empty : run.pending ≡ [] = search rules in
    follows_end outcomes told ps run.results c.args.fuel so_far
    (config_on run c.args.heap.now.grove) f c.args.fuel (omega arith) (ap (map piece_of) empty)
    c.in-Ok.values c.in-Ok.ensures

pub returns-in-Err : goal.returns-in-Err
returns-in-Err c = λ outcomes told ps so_far f.
    let run = c.args.run.now in
    follows_refusal outcomes told ps run.results c.args.fuel so_far
    (config_on run c.args.heap.now.grove) f c.args.fuel (omega arith)
