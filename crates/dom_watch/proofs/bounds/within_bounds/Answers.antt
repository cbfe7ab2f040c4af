use Rattle.model_limits.specs.Limits.{number_limit, text_limit}
use Rattle.dom_terms.specs.Stores.{store_of}
use Rattle.formula_syntax.specs.Formulas.{formula_of}
use Rattle.dom_watch.proofs.Ready.{evaluate_whole}
use Rattle.dom_watch.proofs.Weighing.{passed, heavy, light}
use Rattle.dom_watch.proofs.bounds.within_bounds.Goals as goal

pub within_limits-requires : goal.within_limits-requires
within_limits-requires c = evaluate_whole (formula_of c.args.formula.now) c.requires

pub returns-in-Err-NumberRange : goal.returns-in-Err-NumberRange
returns-in-Err-NumberRange c = (
  c.in_ok-can_be_watched.ensures,
  passed (store_of c.args.store.now) c.args.nodes (formula_of c.args.formula.now) number_limit
      (rw c.in-Err-NumberRange.field-0-is at c.in-Err-NumberRange.ensures),
)

pub returns-in-Err-TextLimit : goal.returns-in-Err-TextLimit
returns-in-Err-TextLimit c = (
  c.in_ok-can_be_watched.ensures,
  passed (store_of c.args.store.now) c.args.nodes (formula_of c.args.formula.now) text_limit
      (rw c.in-Err-TextLimit.field-0-is at c.in-Err-TextLimit.ensures),
)

pub returns-then-weight-gt-WATCH : goal.returns-then-weight-gt-WATCH
returns-then-weight-gt-WATCH c = (
  c.in_ok-can_be_watched.ensures,
  heavy (store_of c.args.store.now) c.args.nodes (formula_of c.args.formula.now) c.weight.result
      c.in-Ok.ensures c.weight.ensures c.if-weight-gt-WATCH.true,
)

pub returns : goal.returns
returns c = (
  c.in_ok-can_be_watched.ensures,
  light (store_of c.args.store.now) c.args.nodes (formula_of c.args.formula.now) c.weight.result
      c.in-Ok.ensures c.weight.ensures c.if-weight-gt-WATCH.false,
)
