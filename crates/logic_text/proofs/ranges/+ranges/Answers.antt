use Rattle.std.proofs.Common.{arith}
use Rattle.std.proofs.lemmas.Grind.{common_steps}
use Rattle.std.proofs.lemmas.Result.{err_from_is_err_and}
use Rattle.logic_text.proofs.RangeLemmas.{tells_same, told_of_item, none_in_item, first_kids, first_list, first_none}
use Rattle.logic_text.proofs.ranges.+ranges.Goals as goal

pub ranged_forest-returns-in_err-item-clause-told :
    goal.ranged_forest-returns-in_err-item-clause-told
ranged_forest-returns-in_err-item-clause-told t c =
    let p = err_from_is_err_and c.from_residual.result c.from_residual.ensures.1 in
    rw (p.1, p.2, ← c.as_slice-tree-items.ensures)
    (told_of_item c.as_slice-tree-items.result.now c.loop-tree.tree-index c.tree-item.result _
    c.loop-tree-test.true c.tree-item.is c.loop-tree.invariant.left
    c.in_err-item.field-0.0 c.in_err-item.ensures.told)

pub ranged_forest-loop-tree-preserved : goal.ranged_forest-loop-tree-preserved
ranged_forest-loop-tree-preserved t c = record {
  made = grind (arith, common_steps);
  left = none_in_item c.as_slice-tree-items.result.now c.loop-tree.tree-index c.tree-item.result _
      c.loop-tree-test.true c.tree-item.is c.loop-tree.invariant.left c.in_ok-item.ensures.in_range;
}

pub ranged_tree-returns-in_err-kids-clause-told : goal.ranged_tree-returns-in_err-kids-clause-told
ranged_tree-returns-in_err-kids-clause-told t c =
    let p = err_from_is_err_and c.from_residual-in_err-kids.result
    c.from_residual-in_err-kids.ensures.1 in
    rw (p.1, p.2) (tells_same c.in_err-kids.field-0.0 _ _
    (λ x f. first_kids c.args.raw.now x c.in_ok-id.ensures.in_range f)
    c.in_err-kids.ensures.told)

pub ranged_tree-returns-in_err-list-clause-told : goal.ranged_tree-returns-in_err-list-clause-told
ranged_tree-returns-in_err-list-clause-told t c =
    let p = err_from_is_err_and c.from_residual-in_err-list.result
    c.from_residual-in_err-list.ensures.1 in
    rw (p.1, p.2, c.in_err-list.ensures.out.0)
    (first_list c.args.raw.now c.in_ok-id.ensures.in_range c.in_ok-kids.ensures.in_range
    c.in_err-list.ensures.out.1)

pub ranged_tree-returns-clause-in_range : goal.ranged_tree-returns-clause-in_range
ranged_tree-returns-clause-in_range t c =
    first_none c.args.raw.now c.in_ok-id.ensures.in_range c.in_ok-kids.ensures.in_range
    c.in_ok-list.ensures.in_range
