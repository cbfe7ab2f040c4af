use Rattle.std.proofs.Common.{◌∙◌, ◌<◌, ◌≤◌, ℕ, get_or, length, sym, ap, subst, List}
use Rattle.std.specs.List.{All}
use Rattle.std.proofs.lemmas.List.Elements.{All-push}
use Rattle.model_heap.specs.Entries.{uses}
use Rattle.dom_watch.specs.Tables.{numbers_of, StandsIn}
use Rattle.dom_watch.proofs.Laying.{root_known, root_on}
use Rattle.dom_watch.proofs.table.root_rows.Goals as goal

pub bare_row-requires-clause-known : goal.bare_row-requires-clause-known
bare_row-requires-clause-known c =
    let e = c.as_slice-number-items.ensures ∙ c.in_ok-numbers.ensures.all in
    subst (λ (xs : List ℕ). 1 ≤ uses (get_or xs c.loop-number.number-index 0) c.args.heap.now.grove)
    (sym e) (root_known c.args.heap.now.grove c.loop-number.number-index
    (subst (λ (xs : List ℕ). c.loop-number.number-index < length xs) e c.loop-number-test.true))

pub loop-number-preserved : goal.loop-number-preserved
loop-number-preserved c = record {
  numbers =
      ap numbers_of c.in_ok-push.ensures.items
      ∙ root_on c.loop-number.rows.items c.as_slice-number-items.result.now
      c.loop-number.number-index c.bare_row.result c.loop-number-test.true
      c.loop-number.invariant.numbers c.bare_row.ensures.number;
  stand =
      subst (All (StandsIn c.args.heap.now.grove)) (sym c.in_ok-push.ensures.items)
      (All-push (StandsIn c.args.heap.now.grove) c.loop-number.rows.items c.bare_row.result
      c.loop-number.invariant.stand c.bare_row.ensures.stands);
}
