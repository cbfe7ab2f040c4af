use Rattle.std.proofs.Common.{◌≡◌, codes, ap}
use Rattle.model_shapes.specs.Sorts.{shape, forest}
use Rattle.model_formulas.specs.Formulas.{Named, empty, node_formula}
use Rattle.assistant_laws.specs.FormPlans.{forest_plan}
use Rattle.dom_terms.specs.Terms.{term_of}
use Rattle.formula_syntax.specs.Formulas.{formula_of}
use Rattle.step_filler.specs.Turns.{way_of}
use Rattle.step_filler.proofs.Penning.{one-pens, both-pens}
use Rattle.step_filler.proofs.Turning.{pens-as, onward-pens, backward-pens, onward-back, backward-back, node-is, ended-is, staged-is}
use Rattle.step_filler.proofs.sides.+sides.Goals as goal

pub write_tree-returns-in-Node-clause-written : goal.write_tree-returns-in-Node-clause-written
write_tree-returns-in-Node-clause-written t c = pens-as
    (one-pens c.write_forest-inner.ensures.written c.write_node.ensures.written)
    (node-is (way_of c.args.way) (formula_of c.args.tree.now) (formula_of c.deref.result.now)
    (term_of c.in-Node.field-0) (term_of c.in-Node.field-1) (term_of c.in-Node.field-3)
    (cc (ap formula_of c.in-Node.is, c.deref.ensures)))

pub take_tree-returns-clause-written : goal.take_tree-returns-clause-written
take_tree-returns-clause-written t c = both-pens
    (one-pens c.write_tree-inner.ensures.written c.write_alone-first.ensures.written)
    c.write_itself-second.ensures.written c.write_leading.ensures.written

pub take_second-returns-clause-written : goal.take_second-returns-clause-written
take_second-returns-clause-written t c = both-pens c.write_itself-kept.ensures.written
    c.take_parts-taken.ensures.written c.write_so.ensures.written

pub take_each-returns-in-Onward-clause-written : goal.take_each-returns-in-Onward-clause-written
take_each-returns-in-Onward-clause-written t c = onward-pens c.in-Onward.is
    c.take_second-inner.ensures.written c.take_parts-outer.ensures.written
    c.write.ensures.written

pub take_each-returns-in-Backward-clause-written :
    goal.take_each-returns-in-Backward-clause-written
take_each-returns-in-Backward-clause-written t c = backward-pens c.in-Backward.is
    c.take_parts-outer-in-Backward.ensures.written
    c.take_second-inner-in-Backward.ensures.written c.write-in-Backward.ensures.written

pub take_both-returns-in-Onward-clause-written : goal.take_both-returns-in-Onward-clause-written
take_both-returns-in-Onward-clause-written t c =
    let way = way_of c.args.way in
    let p = formula_of c.args.first.now in
    let q = formula_of c.args.second.now in
    let e = c.in-Ok.ensures in
    pens-as
    (onward-pens c.in-Onward.is c.write_law-grouped.ensures.written
    c.take_each-taken.ensures.written c.write.ensures.written)
    (staged-is way (codes "star_assoc") (codes "mono_star") (shape forest) p
    (forest_plan way q (formula_of c.args.rest.now)) (λ (r : Named). forest_plan way p r) e.start
    e.middle e.rest e.next e.end)

pub take_both-returns-clause-written : goal.take_both-returns-clause-written
take_both-returns-clause-written t c =
    let way = way_of c.args.way in
    let p = formula_of c.args.first.now in
    let q = formula_of c.args.second.now in
    let e = c.in-Ok.ensures in
    pens-as
    (backward-pens c.in-Backward.is c.take_each-taken-in-Backward.ensures.written
    c.write_law-grouped-in-Backward.ensures.written c.write-in-Backward.ensures.written)
    (staged-is way (codes "star_assoc") (codes "mono_star") (shape forest) p
    (forest_plan way q (formula_of c.args.rest.now)) (λ (r : Named). forest_plan way p r) e.start
    e.middle e.rest e.next e.end)

pub write_forest-returns-in-Onward-clause-written :
    goal.write_forest-returns-in-Onward-clause-written
write_forest-returns-in-Onward-clause-written t c =
    let way = way_of c.args.way in
    let p = formula_of c.args.forest.now in
    let e = c.in-Ok.ensures in
    let start = formula_of c.in-Ok.pair.first in
    pens-as
    (onward-pens c.in-Onward.is
    (onward-back (codes "star_unit") start p (shape forest) c.in-Onward.is
    c.write_law-first.ensures.written)
    c.take_parts-second.ensures.written c.write.ensures.written)
    (ended-is way (codes "star_unit") (shape forest) (forest_plan way p (empty forest)) p e.ended
    e.absorbed)

pub write_forest-returns-clause-written : goal.write_forest-returns-clause-written
write_forest-returns-clause-written t c =
    let way = way_of c.args.way in
    let p = formula_of c.args.forest.now in
    let e = c.in-Ok.ensures in
    let start = formula_of c.in-Ok.pair.first in
    pens-as
    (backward-pens c.in-Backward.is c.take_parts-first.ensures.written
    (backward-back (codes "star_unit") start p (shape forest) c.in-Backward.is
    c.write_law-second.ensures.written)
    c.write-in-Backward.ensures.written)
    (ended-is way (codes "star_unit") (shape forest) (forest_plan way p (empty forest)) p e.ended
    e.absorbed)
