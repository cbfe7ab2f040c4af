use Rattle.std.proofs.Common.{codes, subst}
use Rattle.model_shapes.specs.Sorts.{shape, grove}
use Rattle.model_formulas.specs.Formulas.{Named}
use Rattle.model_commands.specs.Theories.{entails}
use Rattle.formula_syntax.specs.Formulas.{formula_of}
use Rattle.step_filler.specs.Pens.{PensOne}
use Rattle.step_filler.proofs.roots.write_rest.Goals as goal

pub returns-in-Ok-clause-written : goal.returns-in-Ok-clause-written
returns-in-Ok-clause-written c =
    subst (λ (from : Named). PensOne (codes "mono_plus") c.args.cited
    (entails from (formula_of c.args.to.now) (shape grove)) c.args.pen.now c.write.new.self
    c.write.result)
    c.in-Ok.ensures c.write.ensures.written
