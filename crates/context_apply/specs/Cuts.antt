-- Needn't be believed: the program's promise doesn't speak of it. A tree that is cut out of a
-- grove, with the context that it leaves, as POPL 2005 has a grove split into a context and what
-- stands in its hole.
use Rattle.std.specs.Prelude.{◌≡◌, ℕ}
use Rattle.model_shapes.specs.Sorts.{tree, grove}
use Rattle.model_shapes.specs.Trees.{Trees, fill}
use Rattle.model_shapes.specs.Shapes.{SameAt}
use Rattle.grove_data.specs.Trees.{tree_of}
use Rattle.grove_data.specs.declared.trees.Tree.{Tree, out-Tree}
use Rattle.context_apply.specs.declared.contexts.Context.{Context}
use Rattle.context_apply.specs.Contexts.{context_thing, hole_sort_of, outer_sort_of}

-- the tree has the number, the context is that of a grove with a hole for a tree, and together
-- they give the same grove
abbrev pub IsCutFrom : Trees → ℕ → Context × Tree → Type 0
IsCutFrom whole id (outside, cut) =
    SameAt grove (fill (context_thing outside) (tree_of cut)) whole
    × (hole_sort_of outside ≡ tree) × (outer_sort_of outside ≡ grove)
    × ((out-Tree cut).id ≡ id)
