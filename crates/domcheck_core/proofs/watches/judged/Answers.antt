use Rattle.std.proofs.Common.{rules, ◌∙◌, ap, option_map}
use Rattle.model_shapes.specs.Shapes.{Shaped}
use Rattle.model_shapes.specs.Sorts.{shape, grove}
use Rattle.dom_terms.specs.Stores.{store_of}
use Rattle.formula_syntax.specs.Formulas.{formula_of}
use Rattle.domcheck_core.specs.Answers.{limit_answer}
use Rattle.domcheck_core.proofs.Tested.{past_limit}
use Rattle.domcheck_core.proofs.Watching.{same_verdict, same_limit}
use Rattle.domcheck_core.proofs.watches.judged.Goals as goal

pub returns-in-Ok-clause-passes : goal.returns-in-Ok-clause-passes
returns-in-Ok-clause-passes c = λ trees same.
    same_limit (formula_of c.args.formula.now) (store_of c.args.store.now) c.args.heap.now.grove
    trees same
    ∙ ap (option_map limit_answer) c.in-Ok.ensures.causes.1

pub returns-in-Ok-clause-met : goal.returns-in-Ok-clause-met
returns-in-Ok-clause-met c = λ trees same.
    let whole : Shaped (shape grove) c.args.heap.now.grove = search rules in
    same_verdict c.in-Ok.yes (formula_of c.args.formula.now) (store_of c.args.store.now)
    c.args.heap.now.grove trees c.requires.watchable c.requires.sorted whole same
    c.in-Ok.ensures.met

pub returns-in-Err-Limit-clause-told : goal.returns-in-Err-Limit-clause-told
returns-in-Err-Limit-clause-told c = λ trees same.
    rw c.past.ensures (same_limit (formula_of c.args.formula.now) (store_of c.args.store.now)
    c.args.heap.now.grove trees same
    ∙ past_limit c.in-Err-Limit.kind _
    (rw c.in-Err-Limit.field-0-is at c.in-Err-Limit.ensures.causes).1)
