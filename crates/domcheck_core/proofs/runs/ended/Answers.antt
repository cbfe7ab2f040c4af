use Rattle.std.proofs.Common.{◌∙◌, List, ℕ, Option, Some, map, ap, sym}
use Rattle.dom_terms.specs.Terms.{prog_var_of}
use Rattle.dom_terms.specs.Values.{value_seen}
use Rattle.model_answers.specs.Output.{ended_with}
use Rattle.domcheck_core.specs.Answers.{Answer}
use Rattle.domcheck_core.specs.declared.status.Status.TheVariants as status
use Rattle.domcheck_core.proofs.Outcomes.{same_lines}
use Rattle.domcheck_core.proofs.runs.ended.Goals as goal

-- the answer of a run that ended
abbrev some : List ℕ → Option Answer
some output = Some (status.Done, output)

pub returns : goal.returns
returns c = λ left same.
    let results = map prog_var_of c.args.results.now in
    let values = map value_seen c.args.values.now in
    ap some
    (same_lines c.args.steps results values c.args.heap.now.grove left
    c.write_text.ensures.shaped same
    ∙ ap (ended_with c.args.steps results values) (sym c.in_ok-text.ensures.text)
    ∙ ap (λ z. ended_with c.args.steps results (map value_seen z) c.in_ok-text.text)
    (sym c.as_slice.ensures)
    ∙ sym c.in_ok-output.ensures)
