use Rattle.std.proofs.Common.{ap, sym, subst, arith}
use Rattle.model_shapes.specs.Shapes.{HasWidth}
use Rattle.model_shapes.specs.Trees.{width}
use Rattle.dom_terms.specs.Sorts.{data_sort_of}
use Rattle.grove_data.specs.Trees.{forest_of}
use Rattle.context_apply.proofs.Joined.{forest-width, first-tree}
use Rattle.context_apply.proofs.plugging.as_piece.Goals as goal

pub remove-requires : goal.remove-requires
remove-requires c =
    let one = subst (λ k. HasWidth (data_sort_of k) (width (forest_of c.args.trees))) c.in-Tree.is
    c.requires in
    omega (arith, forest-width c.args.trees, one)

pub returns-in-Tree : goal.returns-in-Tree
returns-in-Tree c =
    let one = subst (λ k. HasWidth (data_sort_of k) (width (forest_of c.args.trees))) c.in-Tree.is
    c.requires in
    record {
      thing = first-tree c.args.trees c.remove.result one c.remove.ensures.item;
      sort = sym (ap data_sort_of c.in-Tree.is);
    }
