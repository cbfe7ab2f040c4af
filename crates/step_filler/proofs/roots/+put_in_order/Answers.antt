use Rattle.std.proofs.Common.{◌≡◌, ap, subst}
use Rattle.model_formulas.specs.Formulas.{grove_sum}
use Rattle.assistant_laws.specs.Plans.{Plan}
use Rattle.formula_syntax.specs.Formulas.{formula_of}
use Rattle.step_filler.specs.Pens.{Pens}
use Rattle.step_filler.proofs.Penning.{both-pens}
use Rattle.step_filler.proofs.RootsPens.{ordered}
use Rattle.step_filler.proofs.roots.+put_in_order.Goals as goal

pub returns-clause-written : goal.returns-clause-written
returns-clause-written t c =
    let from = formula_of c.args.from.now in
    let to = formula_of c.args.to.now in
    let root = formula_of c.deref.result.now in
    let others = formula_of c.deref-2.result.now in
    let is : to ≡ grove_sum root others =
    cc (ap formula_of c.in-Plus.is, c.deref.ensures, c.deref-2.ensures) in
    subst (λ (plan : Plan). Pens plan c.args.pen.now c.write-2.new.self c.write-2.result)
    (ordered root others from to (formula_of c.in-Ok.rest) is c.in-Ok.ensures.rest)
    (both-pens c.to_front-first.ensures.written
    (both-pens c.write_itself-itself.ensures.written c.put_in_order-order.ensures.written
    c.write_rest-second.ensures.written)
    c.write-2.ensures.written)
