use Rattle.std.proofs.Common.{◌∙◌, sym, arith}
use Rattle.std.proofs.lemmas.List.{at_drop_all}
use Rattle.grove_data.specs.Trees.{forest_of}
use Rattle.grove_data.specs.SameTrees.{same_trees}
use Rattle.grove_data.proofs.Sorted.{some-left}
use Rattle.grove_data.proofs.roots.+equal.Goals as goal

pub are_forests_equal-returns-in_default-matches : goal.are_forests_equal-returns-in_default-matches
are_forests_equal-returns-in_default-matches t c =
    sym (c.loop-tree.invariant
    ∙ at_drop_all (λ z. same_trees (forest_of z) (forest_of c.loop-tree.others.now))
    c.as_slice-tree-items.result.now
    c.loop-tree.tree-index (omega (arith, c.loop-tree-test.false))
    ∙ some-left c.loop-tree.others.now c.in_default-matches.len_at_least)
