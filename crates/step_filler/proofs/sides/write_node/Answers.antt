use Rattle.std.proofs.Common.{ap}
use Rattle.model_shapes.specs.Sorts.{shape, tree}
use Rattle.model_formulas.specs.Formulas.{Named}
use Rattle.assistant_laws.specs.Ways.{turned}
use Rattle.formula_syntax.specs.Formulas.{formula_of}
use Rattle.step_filler.specs.Turns.{way_of}
use Rattle.step_filler.proofs.Turning.{one-as}
use Rattle.step_filler.proofs.sides.write_node.Goals as goal

pub returns-in-Ok-clause-written : goal.returns-in-Ok-clause-written
returns-in-Ok-clause-written c = one-as c.write_so.ensures.written
    (ap (λ (f : Named). turned (way_of c.args.way) (formula_of c.args.node.now) f (shape tree))
    c.in-Ok.ensures)
