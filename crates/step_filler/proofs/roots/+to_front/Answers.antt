use Rattle.std.proofs.Common.{◌≡◌, ◌∙◌, true, is_some, ap, refl, subst, sym}
use Rattle.model_formulas.specs.Formulas.{grove_sum}
use Rattle.assistant_laws.specs.Plans.{Plan}
use Rattle.formula_syntax.specs.Formulas.{formula_of}
use Rattle.step_filler.specs.Pens.{Pens}
use Rattle.step_filler.specs.Roots.{without_root, exchange}
use Rattle.step_filler.proofs.Penning.{both-pens, one_stayed, stayed}
use Rattle.step_filler.proofs.RootsPens.{first-is-other}
use Rattle.step_filler.proofs.roots.+to_front.Goals as goal

pub returns-then-has_stopped-2-clause-written : goal.returns-then-has_stopped-2-clause-written
returns-then-has_stopped-2-clause-written t c =
    let row = formula_of c.args.row.now in
    let root = formula_of c.args.root.now in
    let first = formula_of c.deref.result.now in
    let others = formula_of c.deref-2.result.now in
    let is : row ≡ grove_sum first others =
    cc (ap formula_of c.in-Plus.is, c.deref.ensures, c.deref-2.ensures) in
    let pen = c.to_front-inner.new.pen in
    let stopped : is_some pen.stopped ≡ true =
    sym c.has_stopped-2.ensures ∙ c.if-has_stopped-2.true in
    let rest = without_root others root in
    subst (λ (plan : Plan). Pens plan c.args.pen.now pen 0)
    (first-is-other root first others row is (sym c.is_same.ensures ∙ c.if-is_same.false) rest
    (grove_sum first (grove_sum root rest)) (grove_sum root (grove_sum first rest)) refl refl refl)
    (both-pens
    (both-pens c.write_itself-itself.ensures.written c.to_front-inner.ensures.written
    (one_stayed _ _ _ pen 0 stopped))
    (stayed (exchange first root rest) pen 0 stopped)
    (one_stayed _ _ _ pen 0 stopped))

pub returns-clause-written : goal.returns-clause-written
returns-clause-written t c =
    let row = formula_of c.args.row.now in
    let root = formula_of c.args.root.now in
    let first = formula_of c.deref.result.now in
    let others = formula_of c.deref-2.result.now in
    let is : row ≡ grove_sum first others =
    cc (ap formula_of c.in-Plus.is, c.deref.ensures, c.deref-2.ensures) in
    subst (λ (plan : Plan). Pens plan c.args.pen.now c.write.new.self c.write.result)
    (first-is-other root first others row is (sym c.is_same.ensures ∙ c.if-is_same.false)
    (formula_of c.in-Ok.passage.rest) (formula_of c.in-Ok.passage.before.row)
    (formula_of c.in-Ok.passage.after.row) c.in-Ok.ensures.rest c.in-Ok.ensures.before.row
    c.in-Ok.ensures.after.row)
    (both-pens
    (both-pens c.write_itself-itself.ensures.written c.to_front-inner.ensures.written
    c.write-outer.ensures.written)
    (c.write_exchange-exchange.ensures.written first root c.in-Ok.ensures.before
    c.in-Ok.ensures.after)
    c.write.ensures.written)
