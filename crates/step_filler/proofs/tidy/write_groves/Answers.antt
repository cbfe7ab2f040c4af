use Rattle.std.proofs.Common.{subst}
use Rattle.assistant_laws.specs.Plans.{Plan}
use Rattle.formula_syntax.specs.Formulas.{formula_of}
use Rattle.step_filler.specs.Pens.{Pens}
use Rattle.step_filler.proofs.Penning.{both-pens}
use Rattle.step_filler.proofs.RootsOrder.{by-rows}
use Rattle.step_filler.proofs.tidy.write_groves.Goals as goal

pub returns-clause-written : goal.returns-clause-written
returns-clause-written c =
    subst (λ (plan : Plan). Pens plan c.args.pen.now c.write.new.self c.write.result)
    (by-rows (formula_of c.args.left.now) (formula_of c.args.right.now)
    (formula_of c.in-Ok.both.0) (formula_of c.in-Ok.both.1) c.in-Ok.ensures.left
    c.in-Ok.ensures.right)
    (both-pens c.write_grove-first.ensures.written
    (both-pens c.put_in_order-order.ensures.written c.write_grove-last.ensures.written
    c.write-second.ensures.written)
    c.write.ensures.written)
