use Rattle.std.proofs.Common.{◌∙◌, ap, refl}
use Rattle.grove_data.specs.Trees.{forest_of}
use Rattle.context_apply.proofs.PutBack.{passed-over, put-back}
use Rattle.context_apply.proofs.cutting.+cutting.Goals as goal

pub cut_forest-returns-in-Some-clause-found : goal.cut_forest-returns-in-Some-clause-found
cut_forest-returns-in-Some-clause-found t c =
    let found = rw c.in-Some.is at c.in_ok-inside.ensures.found in (
      put-back c.as_slice-trees.result.now c.in_ok-left.left c.in_ok-right.right c.loop-place.place
          c.index-trees-place.result _ _ c.loop-place-test.true c.index-trees-place.is
          c.in_ok-left.ensures c.in_ok-right.ensures found.0
          ∙ ap forest_of c.as_slice-trees.ensures,
      found.1,
      found.2,
    )

pub cut_forest-loop-place-preserved : goal.cut_forest-loop-place-preserved
cut_forest-loop-place-preserved t c =
    let absent = rw c.in_default.is at c.in_ok-inside.ensures.absent in
    c.loop-place.invariant
    ∙ passed-over c.args.id c.as_slice-trees.result.now c.loop-place.place
    c.index-trees-place.result c.loop-place-test.true c.index-trees-place.is (absent.0 refl)
