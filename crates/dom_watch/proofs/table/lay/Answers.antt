use Rattle.std.proofs.Common.{arith, sym, subst, List}
use Rattle.dom_watch.specs.declared.rows.Row.{Row}
use Rattle.dom_watch.proofs.Laying.{Following, Coming, coming, coming_kid, coming_known, follow_on, follow_end, row_known, row_at}
use Rattle.dom_watch.proofs.Reading.{once}
use Rattle.dom_watch.proofs.table.lay.Goals as goal
use Rattle.dom_watch.proofs.table.lay.Goals.{In-Some}

it : (c : In-Some) → Coming c.args.heap.now.grove c.index-row.result.now.number
    c.args.rows.now.items c.loop-child.rows.items c.in-Some.number
it c = coming c.args.heap.now.grove c.index-row.result.now.number c.args.rows.now.items
    c.loop-child.rows.items c.in-Some.number c.loop-child.child c.loop-child.invariant
    c.in-Some.is

pub first_child-child-requires-clause-known : goal.first_child-child-requires-clause-known
first_child-child-requires-clause-known c =
    let ok = c.args.rows.now.ok in
    row_known c.args.heap.now.grove c.args.rows.now.items c.args.place c.index-row.result.now
    (omega (arith, ok.0, c.requires.there)) c.requires.stand c.index-row.ensures

pub bare_row-requires-clause-known : goal.bare_row-requires-clause-known
bare_row-requires-clause-known c =
    coming_known c.args.heap.now.grove c.index-row.result.now.number c.args.rows.now.items
    c.loop-child.rows.items c.in-Some.number
    (it (goal.at.bare_row-requires-clause-known c).In-Some)

pub next_sibling-child-requires-clause-known : goal.next_sibling-child-requires-clause-known
next_sibling-child-requires-clause-known c =
    coming_known c.args.heap.now.grove c.index-row.result.now.number c.args.rows.now.items
    c.loop-child.rows.items c.in-Some.number
    (it (goal.at.next_sibling-child-requires-clause-known c).In-Some)

pub loop-child-preserved : goal.loop-child-preserved
loop-child-preserved c =
    let w = it (goal.at.loop-child-preserved c).In-Some in
    let g = c.args.heap.now.grove in
    let n = c.index-row.result.now.number in
    let old = c.args.rows.now.items in
    let rows = c.loop-child.rows.items in
    subst (λ (z : List Row). Following g n old z c.next_sibling-child.result)
    (sym c.in_ok-push.ensures.items)
    (follow_on g n old rows c.in-Some.number w (once g c.requires.shaped) c.bare_row.result
    c.next_sibling-child.result c.bare_row.ensures.number c.bare_row.ensures.stands
    (c.next_sibling-child.ensures n (coming_kid g n old rows c.in-Some.number w)))

pub returns : goal.returns
returns c =
    let ok = c.args.rows.now.ok in
    let done = c.loop-child.rows.ok in
    follow_end c.args.heap.now.grove c.args.place c.len-first.result c.len-end.result
    c.args.rows.now.items c.loop-child.rows.items c.index-row.result.now c.loop-child.child
    c.loop-child.invariant c.in_default.is
    (row_at c.args.rows.now.items c.args.place c.index-row.result.now
    (omega (arith, ok.0, c.requires.there)) c.index-row.ensures)
    (omega (arith, ok.0, c.len-first.ensures)) (omega (arith, done.0, c.len-end.ensures))
