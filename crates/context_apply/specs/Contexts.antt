-- Needn't be believed: the program's promise doesn't speak of it. The contexts of POPL 2005 by
-- construction that the contexts of the program stand for; the plain data, with its hole, that each
-- context and each piece is; and their sorts.
use Rattle.std.specs.Prelude.{Option, Some, None}
use Rattle.model_shapes.specs.Sorts.{DataSort, tree, forest, grove, Sort, shape, context}
use Rattle.model_shapes.specs.Trees.{Trees}
use Rattle.model_shapes.specs.Contexts as model
use Rattle.grove_data.specs.Trees.{tree_of, forest_of}
use Rattle.context_apply.specs.declared.contexts.TreeContext.{TreeContext}
use Rattle.context_apply.specs.declared.contexts.TreeContext.TheVariants as t
use Rattle.context_apply.specs.declared.contexts.ForestInner.{ForestInner}
use Rattle.context_apply.specs.declared.contexts.ForestInner.TheVariants as i
use Rattle.context_apply.specs.declared.contexts.ForestContext.{ForestContext}
use Rattle.context_apply.specs.declared.contexts.GroveInner.{GroveInner}
use Rattle.context_apply.specs.declared.contexts.GroveInner.TheVariants as g
use Rattle.context_apply.specs.declared.contexts.GroveContext.{GroveContext}
use Rattle.context_apply.specs.declared.contexts.Context.{Context}
use Rattle.context_apply.specs.declared.contexts.Context.TheVariants as c
use Rattle.context_apply.specs.declared.contexts.Piece.{Piece}
use Rattle.context_apply.specs.declared.contexts.Piece.TheVariants as p

abbrev mutual
  -- the context of a tree
  pub tree_context_of : TreeContext → model.TreeContext
  tree_context_of t.Hole = model.tree_hole
  tree_context_of (t.Node' name number p left inner right list) =
      model.around_node name number
      (model.between (forest_of left) (forest_inner_of inner) (forest_of right)) list

  -- the inner part of a context of a forest
  pub forest_inner_of : ForestInner → model.ForestInner
  forest_inner_of i.Hole = model.forest_hole
  forest_inner_of (i.One inside) = model.one_context (tree_context_of inside)

-- the context of a forest
abbrev pub forest_context_of : ForestContext → model.ForestContext
forest_context_of outside =
    model.between (forest_of outside.left) (forest_inner_of outside.inner)
    (forest_of outside.right)

-- the root with the hole; none where the hole is for a grove
abbrev pub grove_inner_of : GroveInner → Option model.TreeContext
grove_inner_of g.Hole = None
grove_inner_of (g.Root root) = Some (tree_context_of root)

-- the inner part, with the rest of the roots
abbrev pub with_rest : Option model.TreeContext → Trees → model.GroveContext
with_rest None rest = model.grove_hole rest
with_rest (Some root) rest = model.root_context root rest

-- the context of a grove
abbrev pub grove_context_of : GroveContext → model.GroveContext
grove_context_of outside = with_rest (grove_inner_of outside.inner) (forest_of outside.rest)

-- THE PLAIN CONTEXT: its hole with what stands round it
abbrev pub context_thing : Context → Trees
context_thing (c.Tree outside) = model.tree_thing (tree_context_of outside)
context_thing (c.Forest outside) = model.forest_thing (forest_context_of outside)
context_thing (c.Grove outside) = model.grove_thing (grove_context_of outside)

-- the sort of its hole
abbrev pub hole_sort_of : Context → DataSort
hole_sort_of (c.Tree outside) = model.tree_hole_sort (tree_context_of outside)
hole_sort_of (c.Forest outside) = model.forest_hole_sort (forest_context_of outside)
hole_sort_of (c.Grove outside) = model.grove_hole_sort (grove_context_of outside)

-- the sort of what it gives
abbrev pub outer_sort_of : Context → DataSort
outer_sort_of (c.Tree outside) = tree
outer_sort_of (c.Forest outside) = forest
outer_sort_of (c.Grove outside) = grove

-- its sort, and the plain context
abbrev pub context_seen : Context → Sort × Trees
context_seen outside =
    (context (hole_sort_of outside) (outer_sort_of outside), context_thing outside)

-- THE PLAIN TREE, FOREST OR GROVE
abbrev pub piece_thing : Piece → Trees
piece_thing (p.Tree piece) = tree_of piece
piece_thing (p.Forest piece) = forest_of piece
piece_thing (p.Grove piece) = forest_of piece

-- its sort
abbrev pub piece_sort_of : Piece → DataSort
piece_sort_of (p.Tree piece) = tree
piece_sort_of (p.Forest piece) = forest
piece_sort_of (p.Grove piece) = grove

-- its sort, and the plain tree, forest or grove
abbrev pub piece_seen : Piece → Sort × Trees
piece_seen piece = (shape (piece_sort_of piece), piece_thing piece)
