-- The parts of a formula are added from left to right, and the formula behind them.
use Rattle.model_formulas.specs.Formulas.{truth}
use Rattle.formula_table.proofs.Interned.{then_ends, stop_at, refused_at, grown_ends, above_row, joining_row, meeting_row, node_row}
use Rattle.formula_table.proofs.KeptNumbers.{keeps_all-trans, formula-kept, term-kept}
use Rattle.formula_table.proofs.tables.Table.+formula_below.Goals as goal

pub above-returns-in_err-left : goal.above-returns-in_err-left
above-returns-in_err-left t c = stop_at _ _ _ _ truth _ _ c.from_residual.result
    c.from_residual.ensures.1 c.in_err-left.ensures

pub above-returns : goal.above-returns
above-returns t c = then_ends c.args.self.now c.formula_below.new.self c.add_form.new.self _ _
    c.in_ok-left.ensures.0 _ c.add_form.result
    (c.add_form.ensures _ _ _ _ _ (above_row c.formula_below.new.self c.args.head
    c.in_ok-left.left _ c.requires.terms c.requires.parts c.in_ok-left.ensures.1))

pub joining-returns-in_err-left : goal.joining-returns-in_err-left
joining-returns-in_err-left t c = stop_at _ _ _ _ truth _ _ c.from_residual.result
    c.from_residual.ensures.1 c.in_err-left.ensures

pub joining-returns-in_err-right : goal.joining-returns-in_err-right
joining-returns-in_err-right t c = then_ends c.args.self.now c.formula_below.new.self
    c.formula_below-2.new.self _ _ c.in_ok-left.ensures.0 _ c.from_residual-in_err-right.result
    (stop_at _ _ _ _ truth _ _ c.from_residual-in_err-right.result
    c.from_residual-in_err-right.ensures.1 c.in_err-right.ensures)

pub joining-returns : goal.joining-returns
joining-returns t c = then_ends c.args.self.now c.formula_below.new.self c.add_form.new.self _ _
    c.in_ok-left.ensures.0 _ c.add_form.result
    (then_ends c.formula_below.new.self c.formula_below-2.new.self c.add_form.new.self _ _
    c.in_ok-right.ensures.0 _ c.add_form.result
    (c.add_form.ensures _ _ _ _ _ (joining_row c.formula_below-2.new.self c.args.head
    c.in_ok-left.left c.in_ok-right.right _ _ c.requires.terms c.requires.parts
    (formula-kept c.formula_below.new.self c.formula_below-2.new.self c.in_ok-right.ensures.0.keeps
    c.in_ok-left.left _ c.in_ok-left.ensures.1) c.in_ok-right.ensures.1)))

pub meeting-returns-in_err-left : goal.meeting-returns-in_err-left
meeting-returns-in_err-left t c = stop_at _ _ _ _ truth _ _ c.from_residual.result
    c.from_residual.ensures.1 c.in_err-left.ensures

pub meeting-returns : goal.meeting-returns
meeting-returns t c = then_ends c.args.self.now c.formula_below.new.self c.add_form.new.self _ _
    c.in_ok-left.ensures.0 _ c.add_form.result
    (grown_ends c.formula_below.new.self c.variable_below.new.self c.add_form.new.self
    c.in_ok-first.ensures.grows _ _ c.add_form.result
    (c.add_form.ensures _ _ _ _ _ (meeting_row c.variable_below.new.self c.args.var.now.sort
    c.in_ok-first.first c.in_ok-left.left _ _ c.in_ok-first.ensures.ok
    (formula-kept c.formula_below.new.self c.variable_below.new.self
    c.in_ok-first.ensures.grows.keeps c.in_ok-left.left _ c.in_ok-left.ensures.1))))

pub node-returns-in_err-left : goal.node-returns-in_err-left
node-returns-in_err-left t c = stop_at _ _ _ _ truth _ _ c.from_residual.result
    c.from_residual.ensures.1 c.in_err-left.ensures

pub node-returns-in_err-third : goal.node-returns-in_err-third
node-returns-in_err-third t c = refused_at _ _ _ _ c.from_residual-in_err-third.result
    c.from_residual-in_err-third.ensures.1
    (keeps_all-trans c.args.self.now c.formula_below.new.self c.term_below.new.self
    c.in_ok-left.ensures.0.keeps
    (keeps_all-trans c.formula_below.new.self c.terms_below.new.self c.term_below.new.self
    c.in_ok-first.ensures.grows.keeps c.in_err-third.ensures.grows.keeps))

pub node-returns : goal.node-returns
node-returns t c = then_ends c.args.self.now c.formula_below.new.self c.add_form.new.self _ _
    c.in_ok-left.ensures.0 _ c.add_form.result
    (grown_ends c.formula_below.new.self c.terms_below.new.self c.add_form.new.self
    c.in_ok-first.ensures.grows _ _ c.add_form.result
    (grown_ends c.terms_below.new.self c.term_below.new.self c.add_form.new.self
    c.in_ok-third.ensures.grows _ _ c.add_form.result
    (c.add_form.ensures _ _ _ _ _ (node_row c.term_below.new.self c.in_ok-first.first
    c.in_ok-first.second c.in_ok-third.third c.in_ok-left.left _ _ _ _
    (term-kept c.terms_below.new.self c.term_below.new.self c.in_ok-third.ensures.grows.keeps
    c.in_ok-first.first _ c.in_ok-first.ensures.left)
    (term-kept c.terms_below.new.self c.term_below.new.self c.in_ok-third.ensures.grows.keeps
    c.in_ok-first.second _ c.in_ok-first.ensures.right)
    c.in_ok-third.ensures.ok
    (formula-kept c.formula_below.new.self c.term_below.new.self
    (keeps_all-trans c.formula_below.new.self c.terms_below.new.self c.term_below.new.self
    c.in_ok-first.ensures.grows.keeps c.in_ok-third.ensures.grows.keeps)
    c.in_ok-left.left _ c.in_ok-left.ensures.1)))))
