use Rattle.std.proofs.Common.{◌∙◌, ◌-◌, ◌<◌, ◌++◌, ap, length, map, arith}
use Rattle.model_weakest.specs.Written.{new_sorts_of}
use Rattle.dom_terms.specs.Sorts.{sort_of}
use Rattle.wp_calc.proofs.SortLaws.{sorts-from, sorts-none, whole-block}
use Rattle.wp_calc.proofs.names.+add_sorts.Goals as goal

pub add_block_sorts-loop-place-init : goal.add_block_sorts-loop-place-init
add_block_sorts-loop-place-init t c = record {
  within = omega arith;
  sorts = sorts-none c.as_slice-commands.result.now c.args.sorts.now;
}

pub add_block_sorts-loop-place-preserved : goal.add_block_sorts-loop-place-preserved
add_block_sorts-loop-place-preserved t c =
    let some : 0 < c.loop-place.place = c.loop-place-test.true in
    let before = c.loop-place.invariant in
    let lt : c.loop-place.place - 1 < length c.as_slice-commands.result.now
    = omega (arith, before.within) in
    record {
      within = omega arith;
      sorts = sorts-from c.as_slice-commands.result.now (c.loop-place.place - 1)
          c.loop-place.place c.index-commands-place.result c.args.sorts.now c.loop-place.sorts
          c.add_sorts.new.sorts lt c.index-commands-place.is (omega arith) before.sorts
          (c.in_ok-add_sorts.ensures {u = tt});
    }

pub add_block_sorts-returns : goal.add_block_sorts-returns
add_block_sorts-returns t c =
    c.loop-place.invariant.sorts
    ∙ ap (λ b. map sort_of c.args.sorts.now ++ new_sorts_of b)
    (whole-block c.as_slice-commands.result.now c.args.block.now c.loop-place.place
    c.loop-place-test.false c.as_slice-commands.ensures)
