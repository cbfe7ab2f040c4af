use Rattle.std.proofs.Common.{subst}
use Rattle.assistant_laws.specs.Plans.{Plan}
use Rattle.formula_syntax.specs.Formulas.{formula_of}
use Rattle.step_filler.specs.Pens.{Pens}
use Rattle.step_filler.proofs.Penning.{alone-pens, both-pens}
use Rattle.step_filler.proofs.RootsPens.{exchanged}
use Rattle.step_filler.proofs.roots.write_exchange.Goals as goal

pub returns-clause-written : goal.returns-clause-written
returns-clause-written c = λ p q before after.
    subst (λ (plan : Plan). Pens plan c.args.pen.now c.write.new.self c.write.result)
    (exchanged p q (formula_of c.args.passage.now.rest) c.args.passage.now.before
    c.args.passage.now.after before after)
    (both-pens (alone-pens c.write-apart.ensures.written)
    (both-pens
    (both-pens (alone-pens c.write-pair.ensures.written) c.write_itself-rest.ensures.written
    c.write-turned.ensures.written)
    (alone-pens c.write-together.ensures.written) c.write-last.ensures.written)
    c.write.ensures.written)
