use Rattle.dom_terms.specs.Stores.{store_of}
use Rattle.formula_syntax.specs.Formulas.{formula_of}
use Rattle.dom_watch.proofs.Ready.{ready_watched}
use Rattle.dom_watch.proofs.Meeting.{roots_shown, met_on_table}
use Rattle.dom_watch.proofs.watching.meets.Goals as goal

pub judges-requires-clause-ready : goal.judges-requires-clause-ready
judges-requires-clause-ready c =
    ready_watched (store_of c.args.store.now) (formula_of c.args.formula.now) c.len.result
    c.in_ok-within_bounds.ensures.0 c.requires c.in_ok-within_bounds.ensures.1

pub judges-requires-clause-shown : goal.judges-requires-clause-shown
judges-requires-clause-shown c = (
  c.args.heap.now.grove,
  roots_shown c.in_ok-table.table.rows.items c.in_ok-table.table.roots c.args.heap.now.grove
      c.in_ok-table.ensures c.deref.result.now c.deref-2.result.now c.deref.ensures.value
      c.deref-2.ensures.value,
)

pub returns-clause-met : goal.returns-clause-met
returns-clause-met c =
    met_on_table c.in_ok-table.table.rows.items c.in_ok-table.table.roots c.args.heap.now.grove
    c.in_ok-table.ensures c.deref.result.now c.deref-2.result.now c.deref.ensures.value
    c.deref-2.ensures.value (formula_of c.args.formula.now) (store_of c.args.store.now)
    c.in_ok-judges.field-0 c.in_ok-within_bounds.ensures.0 c.requires c.len.ensures.shaped
    c.in_ok-judges.ensures
