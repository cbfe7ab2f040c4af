-- Each context of the program is a plain one with one hole, and each piece a plain one with none.
use Rattle.std.proofs.Common.{◌≡◌, List, sym, refl, subst}
use Rattle.model_shapes.specs.Sorts.{DataSort}
use Rattle.model_shapes.specs.Trees.{Trees, fill, width}
use Rattle.model_shapes.specs.Shapes.{holes, OneHole, HasWidth}
use Rattle.model_shapes.specs.Contexts as model
use Rattle.model_shapes.proofs.Filling.{fill-width}
use Rattle.model_shapes.proofs.ByConstruction.{tree-hole, forest-hole, grove-hole}
use Rattle.grove_data.specs.Trees.{forest_of}
use Rattle.grove_data.specs.declared.trees.Tree.{Tree}
use Rattle.context_apply.specs.declared.contexts.TreeContext.{TreeContext}
use Rattle.context_apply.specs.declared.contexts.TreeContext.TheVariants as t
use Rattle.context_apply.specs.declared.contexts.ForestInner.{ForestInner}
use Rattle.context_apply.specs.declared.contexts.ForestInner.TheVariants as i
use Rattle.context_apply.specs.declared.contexts.GroveInner.{GroveInner}
use Rattle.context_apply.specs.declared.contexts.GroveInner.TheVariants as g
use Rattle.context_apply.specs.declared.contexts.Context.{Context}
use Rattle.context_apply.specs.declared.contexts.Context.TheVariants as c
use Rattle.context_apply.specs.declared.contexts.Piece.{Piece}
use Rattle.context_apply.specs.declared.contexts.Piece.TheVariants as p
use Rattle.context_apply.specs.Contexts.{tree_context_of, forest_inner_of, forest_context_of, grove_inner_of, grove_context_of, with_rest, context_thing, hole_sort_of, outer_sort_of, piece_thing, piece_sort_of}
use Rattle.grove_data.proofs.Bare.{tree-bare, forest-bare}
use Rattle.context_apply.proofs.Joined.{tree-width}

mutual
  -- what stands beside the hole has no hole
  pub tree-context-bare : (x : TreeContext) → model.TreeBare (tree_context_of x)
  tree-context-bare t.Hole = tt
  tree-context-bare (t.Node' name number p left inner right list) =
      (forest-bare left, inner-context-bare inner, forest-bare right)

  inner-context-bare : (x : ForestInner) → model.InnerBare (forest_inner_of x)
  inner-context-bare i.Hole = tt
  inner-context-bare (i.One inside) = tree-context-bare inside

grove-context-bare : (inner : GroveInner) (rest : List Tree)
    → model.GroveBare (with_rest (grove_inner_of inner) (forest_of rest))
grove-context-bare g.Hole rest = forest-bare rest
grove-context-bare (g.Root root) rest = (tree-context-bare root, forest-bare rest)

-- each context has one hole, which may stand where it stands
pub one-hole : (x : Context) → OneHole (hole_sort_of x) (outer_sort_of x) (context_thing x)
one-hole (c.Tree x) = tree-hole (tree_context_of x) (tree-context-bare x)
one-hole (c.Forest x) =
    forest-hole (forest_context_of x)
    (forest-bare x.left, inner-context-bare x.inner, forest-bare x.right)
one-hole (c.Grove x) =
    grove-hole (grove_context_of x) (grove-context-bare x.inner x.rest)

one-root : (x : model.TreeContext) → width (model.tree_thing x) ≡ 1
one-root model.tree_hole = refl
one-root (model.around_node s n f l) = refl

-- and as many roots as its sort asks for
pub context-width : (x : Context) → HasWidth (outer_sort_of x) (width (context_thing x))
context-width (c.Tree x) = one-root (tree_context_of x)
context-width (c.Forest x) = tt
context-width (c.Grove x) = tt

-- so has each piece
pub piece-width : (x : Piece) → HasWidth (piece_sort_of x) (width (piece_thing x))
piece-width (p.Tree x) = tree-width x
piece-width (p.Forest x) = tt
piece-width (p.Grove x) = tt

-- and it has no hole
pub piece-bare : (x : Piece) → holes (piece_thing x) ≡ 0
piece-bare (p.Tree x) = tree-bare x
piece-bare (p.Forest x) = forest-bare x
piece-bare (p.Grove x) = forest-bare x

-- so have the trees that are a context with a piece that fits in its hole
pub whole-width : (x : Context) (y : Piece) (k : DataSort) (whole : Trees)
    → piece_sort_of y ≡ hole_sort_of x → k ≡ outer_sort_of x
    → whole ≡ fill (context_thing x) (piece_thing y) → HasWidth k (width whole)
whole-width x y k whole fits e is =
    subst (λ z. HasWidth k (width z)) (sym is)
    (subst (λ j. HasWidth j (width (fill (context_thing x) (piece_thing y)))) (sym e)
    (fill-width (hole_sort_of x) (outer_sort_of x) (context_thing x) (piece_thing y) (one-hole x)
    (context-width x) (subst (λ j. HasWidth j (width (piece_thing y))) fits (piece-width y))))
