use Rattle.std.proofs.Common.{◌≡◌, ◌∙◌, ap, sym}
use Rattle.model_formulas.specs.Formulas.{conjunction}
use Rattle.dom_terms.specs.Sorts.{sort_of}
use Rattle.formula_syntax.specs.Formulas.{formula_of}
use Rattle.step_filler.proofs.Planned.{two-first, two-second, two-all}
use Rattle.step_filler.proofs.Reaching.{by-left, by-right}
use Rattle.step_filler.proofs.conj.+reach.Goals as goal

pub returns-in_err-second : goal.returns-in_err-second
returns-in_err-second t c =
    let s = sort_of c.args.sort in
    let formula = formula_of c.args.formula.now in
    let target = formula_of c.args.target.now in
    let left = formula_of c.deref.result.now in
    let right = formula_of c.deref-2.result.now in
    let is : formula ≡ conjunction left right =
    cc (ap formula_of c.in-And.is, c.deref.ensures, c.deref-2.ensures) in
    two-second (by-left s formula left right target is
    (sym c.has_conjunct.ensures ∙ c.if-has_conjunct.true))
    c.args.draft.now c.write-then-has_conjunct.new.self c.reach.new.draft c.in_ok-first.first
    c.in_err-second.field-0.0 c.from_residual-in_err-second.result
    c.from_residual-in_err-second.ensures.1 c.in_ok-first.ensures c.in_err-second.ensures

pub returns-then-has_conjunct : goal.returns-then-has_conjunct
returns-then-has_conjunct t c =
    let s = sort_of c.args.sort in
    let formula = formula_of c.args.formula.now in
    let target = formula_of c.args.target.now in
    let left = formula_of c.deref.result.now in
    let right = formula_of c.deref-2.result.now in
    let is : formula ≡ conjunction left right =
    cc (ap formula_of c.in-And.is, c.deref.ensures, c.deref-2.ensures) in
    two-all (by-left s formula left right target is
    (sym c.has_conjunct.ensures ∙ c.if-has_conjunct.true))
    c.args.draft.now c.write-then-has_conjunct.new.self c.reach.new.draft
    c.write-then-has_conjunct-2.new.self c.in_ok-first.first c.in_ok-second.second
    c.write-then-has_conjunct-2.result c.in_ok-first.ensures c.in_ok-second.ensures
    c.write-then-has_conjunct-2.ensures

pub returns-in_err-first-2 : goal.returns-in_err-first-2
returns-in_err-first-2 t c =
    let s = sort_of c.args.sort in
    let formula = formula_of c.args.formula.now in
    let target = formula_of c.args.target.now in
    let left = formula_of c.deref.result.now in
    let right = formula_of c.deref-2.result.now in
    let is : formula ≡ conjunction left right =
    cc (ap formula_of c.in-And.is, c.deref.ensures, c.deref-2.ensures) in
    two-first (by-right s formula left right target is
    (sym c.has_conjunct.ensures ∙ c.if-has_conjunct.false))
    c.args.draft.now c.write-2.new.self c.in_err-first-2.field-0.0
    c.from_residual-in_err-first-2.result c.from_residual-in_err-first-2.ensures.1
    c.in_err-first-2.ensures

pub returns-in_err-second-2 : goal.returns-in_err-second-2
returns-in_err-second-2 t c =
    let s = sort_of c.args.sort in
    let formula = formula_of c.args.formula.now in
    let target = formula_of c.args.target.now in
    let left = formula_of c.deref.result.now in
    let right = formula_of c.deref-2.result.now in
    let is : formula ≡ conjunction left right =
    cc (ap formula_of c.in-And.is, c.deref.ensures, c.deref-2.ensures) in
    two-second (by-right s formula left right target is
    (sym c.has_conjunct.ensures ∙ c.if-has_conjunct.false))
    c.args.draft.now c.write-2.new.self c.reach-2.new.draft c.in_ok-first-2.first
    c.in_err-second-2.field-0.0 c.from_residual-in_err-second-2.result
    c.from_residual-in_err-second-2.ensures.1 c.in_ok-first-2.ensures
    c.in_err-second-2.ensures

pub returns : goal.returns
returns t c =
    let s = sort_of c.args.sort in
    let formula = formula_of c.args.formula.now in
    let target = formula_of c.args.target.now in
    let left = formula_of c.deref.result.now in
    let right = formula_of c.deref-2.result.now in
    let is : formula ≡ conjunction left right =
    cc (ap formula_of c.in-And.is, c.deref.ensures, c.deref-2.ensures) in
    two-all (by-right s formula left right target is
    (sym c.has_conjunct.ensures ∙ c.if-has_conjunct.false))
    c.args.draft.now c.write-2.new.self c.reach-2.new.draft c.write-3.new.self
    c.in_ok-first-2.first c.in_ok-second-2.second c.write-3.result c.in_ok-first-2.ensures
    c.in_ok-second-2.ensures c.write-3.ensures
