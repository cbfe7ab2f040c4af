use Rattle.formula_syntax.specs.Formulas.{formula_of}
use Rattle.dom_watch.proofs.Walking.{told_first}
use Rattle.dom_watch.proofs.bounds.can_be_watched.Goals as goal

pub returns-in-Err : goal.returns-in-Err
returns-in-Err c =
    told_first (formula_of c.args.formula.now) c.in-Err.field-0.part c.not_watchable.result
    c.in-Err.ensures c.not_watchable.ensures
