use Rattle.std.proofs.Common.{rules, ◌≡◌, ◌∙◌, [], refl, sym, ap, subst, map, arith}
use Rattle.model_shapes.specs.Sorts.{grove}
use Rattle.model_shapes.proofs.Shapes.{SameAt-sym}
use Rattle.model_commands.specs.Theories.{procedures_of}
use Rattle.model_files.proofs.WellFormedTheories.{well-formed-bodies}
use Rattle.model_machine.specs.Machine.{configuration}
use Rattle.model_machine.specs.Outcomes.{ends_at}
use Rattle.theory_syntax.specs.Theories.{theory_of}
use Rattle.dom_meaning.specs.Configs.{piece_of}
use Rattle.heap_runner.specs.Reached.{Reached}
use Rattle.heap_runner.specs.RunViews.{config_on}
use Rattle.heap_runner.proofs.RunLaws.{reached_nothing, reached_leaves, reached_spent}
use Rattle.heap_runner.proofs.OutcomeLaws.{came_to_end, came_to_fault, came_to_limit, came_to_want, came_further, some_pending}
use Rattle.heap_runner.proofs.runs.run_from.Goals as goal

pub returns-in-Done : goal.returns-in-Done
returns-in-Done c = λ runs begun.
    let before = c.loop-steps.run in
    let trees = c.loop-steps.heap.grove in
    came_to_end runs (procedures_of (theory_of c.args.theory.now)) c.args.run.results
    c.loop-steps.steps before c.advance.new.self trees c.advance.new.heap.grove
    (c.loop-steps.invariant.reached runs begun) c.args.fuel (omega arith)
    c.loop-steps.invariant.results c.in-Done.values c.in-Done.ensures.advanced

pub returns-in-Fault : goal.returns-in-Fault
returns-in-Fault c = λ runs begun.
    let before = c.loop-steps.run in
    let trees = c.loop-steps.heap.grove in
    came_to_fault runs (procedures_of (theory_of c.args.theory.now)) c.args.run.results
    c.loop-steps.steps before c.advance.new.self trees c.advance.new.heap.grove
    (c.loop-steps.invariant.reached runs begun) c.args.fuel (omega arith)
    c.in-Fault.kind c.in-Fault.command c.in-Fault.ensures.advanced

pub returns-in-Limit : goal.returns-in-Limit
returns-in-Limit c = λ runs begun.
    let before = c.loop-steps.run in
    let trees = c.loop-steps.heap.grove in
    came_to_limit runs (procedures_of (theory_of c.args.theory.now)) c.args.run.results
    c.loop-steps.steps before c.advance.new.self trees c.advance.new.heap.grove
    (c.loop-steps.invariant.reached runs begun) c.args.fuel (omega arith)
    c.in-Limit.kind c.in-Limit.ensures.advanced

pub returns-in-OutOfMemory : goal.returns-in-OutOfMemory
returns-in-OutOfMemory c = λ runs begun.
    let before = c.loop-steps.run in
    let trees = c.loop-steps.heap.grove in
    came_to_want runs (procedures_of (theory_of c.args.theory.now)) c.args.run.results
    c.loop-steps.steps before c.advance.new.self trees c.advance.new.heap.grove
    (c.loop-steps.invariant.reached runs begun) c.args.fuel (omega arith)
    c.in-OutOfMemory.ensures.advanced

pub loop-steps-preserved : goal.loop-steps-preserved
loop-steps-preserved c =
    let step = c.in-Next.ensures.advanced in
    let before = c.loop-steps.run in
    let trees = c.loop-steps.heap.grove in
    record {
      fits = c.in-Next.ensures.fits;
      results = step.3 ∙ c.loop-steps.invariant.results;
      taken = let were = c.loop-steps.invariant.taken in
          let one = step.2 in
          omega (arith, were, one);
      reached = λ runs begun.
          came_further runs (procedures_of (theory_of c.args.theory.now)) c.args.run.results
          c.loop-steps.steps before c.advance.new.self trees c.advance.new.heap.grove
          (c.loop-steps.invariant.reached runs begun)
          (well-formed-bodies (theory_of c.args.theory.now) c.requires.well_formed)
          c.in-Next.change step;
    }

pub returns-then-is_done : goal.returns-then-is_done
returns-then-is_done c = λ runs begun.
    let ps = procedures_of (theory_of c.args.theory.now) in
    let rs = c.args.run.results in
    let here = config_on c.loop-steps.run c.loop-steps.heap.grove in
    let all : c.loop-steps.steps ≡ c.args.fuel = omega arith in
    let r = subst (λ n. Reached runs ps rs n here) all
    (c.loop-steps.invariant.reached runs begun) in
    let there = configuration here.pending here.store r.roots in
    let empty : c.loop-steps.run.pending ≡ [] = search rules in
    c.ended.ensures runs c.args.fuel there here.grove refl (omega arith)
    (reached_nothing runs ps rs c.args.fuel here r c.args.fuel (omega arith)
    (ap (map piece_of) empty)
    ∙ ap (λ z. ends_at z c.args.fuel there) (sym c.loop-steps.invariant.results))
    (reached_leaves runs ps rs c.args.fuel here r) (SameAt-sym grove r.roots here.grove r.same)

pub returns : goal.returns
returns c = λ runs begun.
    let ps = procedures_of (theory_of c.args.theory.now) in
    let rs = c.args.run.results in
    let here = config_on c.loop-steps.run c.loop-steps.heap.grove in
    let all : c.loop-steps.steps ≡ c.args.fuel = omega arith in
    let r = subst (λ n. Reached runs ps rs n here) all
    (c.loop-steps.invariant.reached runs begun) in
    let some : c.loop-steps.run.pending ≡ [] → ⊥ = search rules in (
      configuration here.pending here.store r.roots,
      reached_spent runs ps rs c.args.fuel here r (some_pending c.loop-steps.run.pending some),
      refl,
      SameAt-sym grove r.roots here.grove r.same,
    )
