use Rattle.std.proofs.Common.{◌≡◌, length, arith, subst, ℕ}
use Rattle.dom_watch.proofs.Laying.{Laid, laid_start, laid_on, laid_fit, laid_end}
use Rattle.dom_watch.proofs.Reading.{once}
use Rattle.dom_watch.proofs.table.table_of.Goals as goal

pub loop-place-init : goal.loop-place-init
loop-place-init c =
    let ok = c.in_ok-rows.rows.ok in
    let e : length c.in_ok-rows.rows.items ≡ c.len-roots.result =
    omega (arith, ok.0, c.len-roots.ensures) in
    subst (λ (n : ℕ). Laid c.args.heap.now.grove n c.in_ok-rows.rows.items 0) e
    (laid_start c.args.heap.now.grove (once c.args.heap.now.grove c.in_ok-rows.ensures.shaped)
    c.in_ok-rows.rows.items c.in_ok-rows.ensures.numbers c.in_ok-rows.ensures.stand)

pub loop-place-smaller : goal.loop-place-smaller
loop-place-smaller c =
    let ok = c.loop-place.rows.ok in
    omega (
      arith,
      ok.0,
      c.len.ensures,
      c.loop-place-test.true,
      laid_fit c.args.heap.now.grove c.len-roots.result c.loop-place.rows.items
          c.loop-place.place c.loop-place.invariant,
    )

pub loop-place-preserved : goal.loop-place-preserved
loop-place-preserved c =
    laid_on c.args.heap.now.grove (once c.args.heap.now.grove c.in_ok-rows.ensures.shaped)
    c.len-roots.result c.loop-place.place c.loop-place.rows.items c.lay.new.rows.items
    c.loop-place.invariant c.in_ok-lay.ensures

pub returns : goal.returns
returns c =
    let ok = c.loop-place.rows.ok in
    laid_end c.args.heap.now.grove c.len-roots.result c.loop-place.rows.items c.loop-place.place
    c.in_ok-rows.ensures.shaped.well_formed c.in_ok-rows.ensures.shaped.holes_fit
    c.loop-place.invariant
    (omega (arith, ok.0, c.len.ensures, c.loop-place-test.false))
