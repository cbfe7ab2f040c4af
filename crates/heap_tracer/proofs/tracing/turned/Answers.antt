use Rattle.std.proofs.Common.{◌∙◌, ◌+◌, map, ap, subst, arith}
use Rattle.model_commands.specs.Theories.{procedures_of}
use Rattle.model_files.proofs.WellFormedTheories.{well-formed-bodies}
use Rattle.theory_syntax.specs.Theories.{theory_of}
use Rattle.heap_runner.specs.RunViews.{config_on}
use Rattle.run_trace.specs.Changes.{change_of}
use Rattle.run_trace.specs.Listeners.{ToldSome, listeners_of, told_all}
use Rattle.observer_lists.proofs.Heard.{told_more, told_all_first, told_some_more}
use Rattle.heap_tracer.specs.Traces.{Follows}
use Rattle.heap_tracer.proofs.Turns.{follows_refusal, mapped_last, quiet_turn, telling_turn, refused_turn, last_turn, faulty_turn, limited_turn}
use Rattle.heap_tracer.proofs.tracing.turned.Goals as goal

pub returns-then-is_err-clause-run : goal.returns-then-is_err-clause-run
returns-then-is_err-clause-run g c = λ outcomes told f fuel lt.
    rw c.reserve.ensures.items
    (follows_refusal outcomes told (procedures_of (theory_of c.args.theory.now))
    c.args.run.now.results c.args.steps (map change_of c.args.changes.now.items)
    (config_on c.args.run.now c.args.heap.now.grove) f fuel (omega (arith, lt)))

pub returns-then-is_err-clause-heard : goal.returns-then-is_err-clause-heard
returns-then-is_err-clause-heard g c = λ before e.
    rw c.reserve.ensures.items
    (told_all_first (map change_of c.args.changes.now.items) before _ e)

pub returns-in-OutOfMemory-clause-heard : goal.returns-in-OutOfMemory-clause-heard
returns-in-OutOfMemory-clause-heard g c = λ before e.
    rw c.reserve.ensures.items
    (told_all_first (map change_of c.args.changes.now.items) before _ e)

pub returns-in-Next-None-clause-run : goal.returns-in-Next-None-clause-run
returns-in-Next-None-clause-run g c = λ outcomes told f.
    rw c.reserve.ensures.items
    (quiet_turn outcomes told (procedures_of (theory_of c.args.theory.now)) c.args.steps
    (map change_of c.args.changes.now.items) c.args.run.now
    c.advance.new.self c.args.heap.now.grove c.advance.new.heap.grove c.requires.steps f
    (well-formed-bodies (theory_of c.args.theory.now) c.requires.well_formed)
    c.in-Next-None.change c.in-Next-None.change-is
    c.in-Next-None.ensures.advanced)

pub returns-in-Ok-clause-run : goal.returns-in-Ok-clause-run
returns-in-Ok-clause-run g c = λ outcomes told f.
    rw (c.push_reserved.ensures.items, c.reserve.ensures.items)
    (subst (λ cs. Follows outcomes told (procedures_of (theory_of c.args.theory.now))
    c.args.run.now.results (c.args.steps + 1) cs
    (config_on c.advance.new.self c.advance.new.heap.grove))
    (mapped_last c.args.changes.now.items c.in-Next-Some.change)
    (telling_turn outcomes told (procedures_of (theory_of c.args.theory.now)) c.args.steps
    (map change_of c.args.changes.now.items) c.args.run.now
    c.advance.new.self c.args.heap.now.grove c.advance.new.heap.grove c.requires.steps f
    (well-formed-bodies (theory_of c.args.theory.now) c.requires.well_formed)
    c.in-Next-Some.change' c.in-Next-Some.change c.in-Next-Some.change-is
    c.in-Next-Some.ensures.advanced))

pub returns-in-Ok-clause-heard : goal.returns-in-Ok-clause-heard
returns-in-Ok-clause-heard g c = λ before e.
    rw (c.push_reserved.ensures.items, c.reserve.ensures.items)
    (told_more (map change_of c.args.changes.now.items) (change_of c.in-Next-Some.change) before _
    _ e c.in-Ok.ensures.told
    ∙ ap (λ cs. map (told_all cs) before)
    (mapped_last c.args.changes.now.items c.in-Next-Some.change))

pub returns-in-Err-clause-run : goal.returns-in-Err-clause-run
returns-in-Err-clause-run g c = λ outcomes told f fuel lt.
    rw (c.push_reserved.ensures.items, c.reserve.ensures.items)
    (follows_refusal outcomes told (procedures_of (theory_of c.args.theory.now))
    c.args.run.now.results (c.args.steps + 1) _
    (config_on c.advance.new.self c.advance.new.heap.grove)
    (subst (λ cs. Follows outcomes told (procedures_of (theory_of c.args.theory.now))
    c.args.run.now.results (c.args.steps + 1) cs
    (config_on c.advance.new.self c.advance.new.heap.grove))
    (mapped_last c.args.changes.now.items c.in-Next-Some.change)
    (telling_turn outcomes told (procedures_of (theory_of c.args.theory.now)) c.args.steps
    (map change_of c.args.changes.now.items) c.args.run.now
    c.advance.new.self c.args.heap.now.grove c.advance.new.heap.grove c.requires.steps f
    (well-formed-bodies (theory_of c.args.theory.now) c.requires.well_formed)
    c.in-Next-Some.change' c.in-Next-Some.change c.in-Next-Some.change-is
    c.in-Next-Some.ensures.advanced))
    fuel (omega (arith, lt)))

pub returns-in-Err-clause-heard : goal.returns-in-Err-clause-heard
returns-in-Err-clause-heard g c = λ before e.
    rw (c.push_reserved.ensures.items, c.reserve.ensures.items)
    (subst (λ cs. ToldSome cs before (listeners_of g.O.Observer.face g.O.Observer.after
    g.O.Observer.says c.tell_each.new.observers.items))
    (mapped_last c.args.changes.now.items c.in-Next-Some.change)
    (told_some_more (map change_of c.args.changes.now.items) (change_of c.in-Next-Some.change)
    c.in-Err.ensures.some.0 before _ _ e c.in-Err.ensures.some.1))

pub returns-in-Done-clause-run : goal.returns-in-Done-clause-run
returns-in-Done-clause-run g c = λ outcomes told f fuel lt.
    rw c.reserve.ensures.items
    (last_turn outcomes told (procedures_of (theory_of c.args.theory.now)) c.args.steps
    (map change_of c.args.changes.now.items) c.args.run.now
    c.advance.new.self c.args.heap.now.grove c.advance.new.heap.grove c.requires.steps f
    fuel (omega (arith, lt)) c.in-Done.values c.in-Done.ensures.advanced)

pub returns-in-Fault-clause-run : goal.returns-in-Fault-clause-run
returns-in-Fault-clause-run g c = λ outcomes told f fuel lt.
    rw c.reserve.ensures.items
    (faulty_turn outcomes told (procedures_of (theory_of c.args.theory.now)) c.args.steps
    (map change_of c.args.changes.now.items) c.args.run.now
    c.advance.new.self c.args.heap.now.grove c.advance.new.heap.grove c.requires.steps f
    fuel lt c.in-Fault.kind c.in-Fault.command c.in-Fault.ensures.advanced)

pub returns-in-Limit-clause-run : goal.returns-in-Limit-clause-run
returns-in-Limit-clause-run g c = λ outcomes told f fuel lt.
    rw c.reserve.ensures.items
    (limited_turn outcomes told (procedures_of (theory_of c.args.theory.now)) c.args.steps
    (map change_of c.args.changes.now.items) c.args.run.now
    c.advance.new.self c.args.heap.now.grove c.advance.new.heap.grove c.requires.steps f
    fuel lt c.in-Limit.kind c.in-Limit.ensures.advanced)

pub returns-in-OutOfMemory-clause-run : goal.returns-in-OutOfMemory-clause-run
returns-in-OutOfMemory-clause-run g c = λ outcomes told f fuel lt.
    let a = c.in-OutOfMemory.ensures.advanced in
    rw c.reserve.ensures.items
    (refused_turn outcomes told (procedures_of (theory_of c.args.theory.now)) c.args.steps
    (map change_of c.args.changes.now.items) c.args.run.now
    c.advance.new.self c.args.heap.now.grove c.advance.new.heap.grove c.requires.steps f
    fuel (omega (arith, lt)) a.1)
