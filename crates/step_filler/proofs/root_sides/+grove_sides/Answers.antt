use Rattle.std.proofs.Common.{codes}
use Rattle.model_shapes.specs.Sorts.{shape, grove}
use Rattle.model_formulas.specs.Formulas.{Named}
use Rattle.assistant_laws.specs.FormPlans.{grove_plan}
use Rattle.formula_syntax.specs.Formulas.{formula_of}
use Rattle.step_filler.specs.Turns.{way_of}
use Rattle.step_filler.proofs.Penning.{both-pens}
use Rattle.step_filler.proofs.Turning.{pens-as, onward-pens, backward-pens, staged-is}
use Rattle.step_filler.proofs.root_sides.+grove_sides.Goals as goal

pub take_second_root-returns-clause-written : goal.take_second_root-returns-clause-written
take_second_root-returns-clause-written t c = both-pens c.write_itself-kept.ensures.written
    c.take_roots-taken.ensures.written c.write_so.ensures.written

pub take_each_root-returns-in-Onward-clause-written :
    goal.take_each_root-returns-in-Onward-clause-written
take_each_root-returns-in-Onward-clause-written t c = onward-pens c.in-Onward.is
    c.take_second_root-inner.ensures.written c.take_roots-outer.ensures.written
    c.write.ensures.written

pub take_each_root-returns-in-Backward-clause-written :
    goal.take_each_root-returns-in-Backward-clause-written
take_each_root-returns-in-Backward-clause-written t c = backward-pens c.in-Backward.is
    c.take_roots-outer-in-Backward.ensures.written
    c.take_second_root-inner-in-Backward.ensures.written c.write-in-Backward.ensures.written

pub take_both_roots-returns-in-Onward-clause-written :
    goal.take_both_roots-returns-in-Onward-clause-written
take_both_roots-returns-in-Onward-clause-written t c =
    let way = way_of c.args.way in
    let p = formula_of c.args.first.now in
    let q = formula_of c.args.second.now in
    let e = c.in-Ok.ensures in
    pens-as
    (onward-pens c.in-Onward.is c.write_law-grouped.ensures.written
    c.take_each_root-taken.ensures.written c.write.ensures.written)
    (staged-is way (codes "plus_assoc") (codes "mono_plus") (shape grove) p
    (grove_plan way q (formula_of c.args.rest.now)) (λ (r : Named). grove_plan way p r) e.start
    e.middle e.rest e.next e.end)

pub take_both_roots-returns-clause-written : goal.take_both_roots-returns-clause-written
take_both_roots-returns-clause-written t c =
    let way = way_of c.args.way in
    let p = formula_of c.args.first.now in
    let q = formula_of c.args.second.now in
    let e = c.in-Ok.ensures in
    pens-as
    (backward-pens c.in-Backward.is c.take_each_root-taken-in-Backward.ensures.written
    c.write_law-grouped-in-Backward.ensures.written c.write-in-Backward.ensures.written)
    (staged-is way (codes "plus_assoc") (codes "mono_plus") (shape grove) p
    (grove_plan way q (formula_of c.args.rest.now)) (λ (r : Named). grove_plan way p r) e.start
    e.middle e.rest e.next e.end)
