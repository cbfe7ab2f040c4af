use Rattle.std.proofs.Common.{◌≡◌, ap}
use Rattle.model_formulas.specs.Formulas.{conjunction}
use Rattle.dom_terms.specs.Sorts.{sort_of}
use Rattle.formula_syntax.specs.Formulas.{formula_of}
use Rattle.step_filler.proofs.Planned.{two-second, two-all}
use Rattle.step_filler.proofs.Reaching.{by-both}
use Rattle.step_filler.proofs.conj.+gather.Goals as goal

pub returns-in_err-second-in-And : goal.returns-in_err-second-in-And
returns-in_err-second-in-And t c =
    let right = formula_of c.args.right.now in
    let p = formula_of c.deref.result.now in
    let q = formula_of c.deref-in-And.result.now in
    let is : right ≡ conjunction p q =
    cc (ap formula_of c.in-And.is, c.deref.ensures, c.deref-in-And.ensures) in
    two-second (by-both (sort_of c.args.sort) (formula_of c.args.left.now) right p q is)
    c.args.draft.now c.gather.new.draft c.gather-in-And.new.draft c.in_ok-first-in-And.first
    c.in_err-second-in-And.field-0.0 c.from_residual-in_err-second-in-And.result
    c.from_residual-in_err-second-in-And.ensures.1 c.in_ok-first-in-And.ensures
    c.in_err-second-in-And.ensures

pub returns-in_ok-second-in-And : goal.returns-in_ok-second-in-And
returns-in_ok-second-in-And t c =
    let right = formula_of c.args.right.now in
    let p = formula_of c.deref.result.now in
    let q = formula_of c.deref-in-And.result.now in
    let is : right ≡ conjunction p q =
    cc (ap formula_of c.in-And.is, c.deref.ensures, c.deref-in-And.ensures) in
    two-all (by-both (sort_of c.args.sort) (formula_of c.args.left.now) right p q is)
    c.args.draft.now c.gather.new.draft c.gather-in-And.new.draft c.write.new.self
    c.in_ok-first-in-And.first c.in_ok-second-in-And.second c.write.result
    c.in_ok-first-in-And.ensures c.in_ok-second-in-And.ensures c.write.ensures
