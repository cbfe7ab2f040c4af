use Rattle.std.proofs.Common.{◌≡◌, rules, [], IsTrue, false}
use Rattle.std.proofs.lemmas.Str.{IsUtf8-had}
use Rattle.logic_text.proofs.MarkLemmas.{goes_on, forest-marked}
use Rattle.logic_text.proofs.PrintableLemmas.{tree_printable, turn_printable}
use Rattle.logic_text.proofs.grove_writing.+writing.Goals as goal

pub push_trees-loop-tree-preserved : goal.push_trees-loop-tree-preserved
push_trees-loop-tree-preserved t c = (
  rw (c.in_ok-push_str-2.ensures, c.in_ok-push_tree.ensures.written, c.in_ok-push_str.ensures)
      (goes_on c.loop-tree.mark.now c.args.next_left.now c.args.right.now
      c.as_slice-tree-items.result.now c.loop-tree.tree-index c.tree-item.result
      c.loop-tree.text _
      c.loop-tree-test.true c.tree-item.is c.loop-tree.invariant.0),
  search rules,
  turn_printable c.as_slice-tree-items.result.now c.loop-tree.tree-index c.tree-item.result
      c.loop-tree-test.true c.tree-item.is c.in_ok-push_tree.ensures.printable
      c.loop-tree.invariant.2,
)

pub push_forest-returns-clause-written : goal.push_forest-returns-clause-written
push_forest-returns-clause-written t c =
    let some : c.args.forest.now ≡ [] → ⊥ =
    λ e. (let h : IsTrue false = c.if-is_empty.ensures.1 e in cc) in
    rw (← forest-marked c.args.forest.now some) c.push_trees.ensures.written

pub push_tree-returns-clause-printable : goal.push_tree-returns-clause-printable
push_tree-returns-clause-printable t c =
    tree_printable c.args.tree.now (IsUtf8-had _ c.is_utf8.ensures) c.push_number.ensures.fits
    c.push_number-2.ensures.fits c.in_ok-push_forest.ensures.printable
