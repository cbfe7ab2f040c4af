use Rattle.std.proofs.Common.{codes}
use Rattle.model_shapes.specs.Sorts.{shape, grove}
use Rattle.model_formulas.specs.Formulas.{empty}
use Rattle.assistant_laws.specs.FormPlans.{grove_plan}
use Rattle.formula_syntax.specs.Formulas.{formula_of}
use Rattle.step_filler.specs.Turns.{way_of}
use Rattle.step_filler.proofs.Turning.{pens-as, onward-pens, backward-pens, onward-back, backward-back, ended-is}
use Rattle.step_filler.proofs.root_sides.write_grove.Goals as goal

pub returns-in-Onward-clause-written : goal.returns-in-Onward-clause-written
returns-in-Onward-clause-written c =
    let way = way_of c.args.way in
    let p = formula_of c.args.grove.now in
    let e = c.in-Ok.ensures in
    let start = formula_of c.in-Ok.pair.first in
    pens-as
    (onward-pens c.in-Onward.is
    (onward-back (codes "plus_unit") start p (shape grove) c.in-Onward.is
    c.write_law-first.ensures.written)
    c.take_roots-second.ensures.written c.write.ensures.written)
    (ended-is way (codes "plus_unit") (shape grove) (grove_plan way p (empty grove)) p e.ended
    e.absorbed)

pub returns-clause-written : goal.returns-clause-written
returns-clause-written c =
    let way = way_of c.args.way in
    let p = formula_of c.args.grove.now in
    let e = c.in-Ok.ensures in
    let start = formula_of c.in-Ok.pair.first in
    pens-as
    (backward-pens c.in-Backward.is c.take_roots-first.ensures.written
    (backward-back (codes "plus_unit") start p (shape grove) c.in-Backward.is
    c.write_law-second.ensures.written)
    c.write-in-Backward.ensures.written)
    (ended-is way (codes "plus_unit") (shape grove) (grove_plan way p (empty grove)) p e.ended
    e.absorbed)
