use Rattle.std.proofs.Common.{rules, List, subst}
use Rattle.model_shapes.specs.Sorts.{shape, grove}
use Rattle.model_shapes.specs.Shapes.{Shaped}
use Rattle.model_commands.specs.Theories.{procedures_of}
use Rattle.model_limits.specs.Limits.{standard_limits}
use Rattle.model_machine.specs.Machine.{Config}
use Rattle.model_machine.specs.Outcomes.{outcome}
use Rattle.model_terms.specs.Stores.{ProgVar}
use Rattle.theory_syntax.specs.Theories.{procedure_of, theory_of}
use Rattle.heap_runner.specs.Answers.{Answers}
use Rattle.heap_runner.specs.RunViews.{config_on}
use Rattle.heap_runner.proofs.RunLaws.{reached_start}
use Rattle.heap_runner.proofs.runs.run_heap.Goals as goal

pub returns-in-Ok : goal.returns-in-Ok
returns-in-Ok c = λ started is roots same.
    let ps = procedures_of (theory_of c.args.theory.now) in
    let run = c.in-Ok.run' in
    let here = config_on run c.args.heap.now.grove in
    let whole : Shaped (shape grove) c.args.heap.now.grove = search rules in
    let fits = c.in-Ok.ensures.fits c.args.heap.now.grove whole in
    let answers = λ (rs : List ProgVar) (there : Config). Answers (λ within. outcome
    standard_limits ps rs within 0 there) c.args.fuel c.run_from.result
    c.run_from.new.heap.grove in
    subst (answers (procedure_of started).results) (c.in-Ok.ensures.begins started is roots)
    (subst (λ (rs : List ProgVar). answers rs (config_on run roots))
    (c.in-Ok.ensures.results started is)
    (c.run_from.ensures _ (reached_start ps run.results here roots same fits.pieces
    fits.fine.proper whole)))
