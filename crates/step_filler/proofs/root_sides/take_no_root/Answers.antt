use Rattle.std.proofs.Common.{codes}
use Rattle.model_shapes.specs.Sorts.{shape, grove}
use Rattle.formula_syntax.specs.Formulas.{formula_of}
use Rattle.step_filler.specs.Turns.{way_of}
use Rattle.step_filler.proofs.Penning.{alone-pens}
use Rattle.step_filler.proofs.Turning.{pens-as, onward-pens, backward-pens, crossed-is}
use Rattle.step_filler.proofs.root_sides.take_no_root.Goals as goal

pub returns-in-Onward-clause-written : goal.returns-in-Onward-clause-written
returns-in-Onward-clause-written c = pens-as
    (onward-pens c.in-Onward.is (alone-pens c.write_so-first.ensures.written)
    c.write_law-second.ensures.written c.write.ensures.written)
    (crossed-is (way_of c.args.way) (codes "plus_comm") (codes "plus_unit") (shape grove)
    (formula_of c.args.rest.now) c.in-Ok.ensures.before c.in-Ok.ensures.after)

pub returns-clause-written : goal.returns-clause-written
returns-clause-written c = pens-as
    (backward-pens c.in-Backward.is c.write_law-first.ensures.written
    (alone-pens c.write_so-second.ensures.written) c.write-in-Backward.ensures.written)
    (crossed-is (way_of c.args.way) (codes "plus_comm") (codes "plus_unit") (shape grove)
    (formula_of c.args.rest.now) c.in-Ok.ensures.before c.in-Ok.ensures.after)
