use Rattle.model_shapes.specs.Sorts.{shape}
use Rattle.assistant_laws.specs.FormPlans.{form_plan}
use Rattle.dom_terms.specs.Sorts.{data_sort_of}
use Rattle.formula_syntax.specs.Formulas.{formula_of}
use Rattle.step_filler.proofs.Penning.{finished}
use Rattle.step_filler.proofs.tidy.steps_for.Goals as goal

pub returns : goal.returns
returns c = finished
    (form_plan (shape (data_sort_of c.args.sort)) (formula_of c.args.asked.now.left)
    (formula_of c.args.asked.now.right))
    c.args.number c.new-pen.result c.write_forms.new.pen c.write_forms.result
    c.new-pen.ensures.none c.new-pen.ensures.first c.new-pen.ensures.going
    c.write_forms.ensures.written c.finish.result c.finish.ensures
