-- Shapes and contexts of a sort, and when two are the same.
-- Data with one hole and the sorts of contexts are those of POPL 2005; groves are of PODS 2008.
use Rattle.std.specs.Prelude.{◌≡◌, ℕ, ◌+◌, Bool, true, false}
use Rattle.model_shapes.specs.Sorts.{DataSort, tree, forest, grove, Sort, value, shape, context, outer}
use Rattle.model_shapes.specs.Trees.{Trees, none, node, hole, width, root_uses, WellFormed}

-- how many holes there are
abbrev pub holes : Trees → ℕ
holes none = 0
holes (node name number kids list rest) = holes kids + holes rest
holes (hole rest) = 1 + holes rest

-- whether a hole of the first sort may stand among the roots of something of the second
abbrev pub may_stand : DataSort → DataSort → Bool
may_stand tree k = true
may_stand forest forest = true
may_stand grove grove = true
may_stand h k = false

-- a tree has one root; a forest and a grove have any number
abbrev pub HasWidth : DataSort → ℕ → Type 0
HasWidth tree n = n ≡ 1
HasWidth k n = Unit

-- what the hole stands in: a hole among the roots in the whole, and one below them in a forest
abbrev pub around_hole : DataSort → Trees → DataSort
around_hole k none = forest
around_hole k (node name number kids list rest) = around_hole k rest
around_hole k (hole rest) = k

-- one hole, which may stand where it stands
pub record OneHole (h k : DataSort) (trees : Trees) : Type 0 where
  pub one : holes trees ≡ 1
  pub stands : may_stand h (around_hole k trees) ≡ true

-- a shape has no hole, and a context has one
abbrev pub HasHoles : Sort → Trees → Type 0
HasHoles (value v) trees = ⊥
HasHoles (shape k) trees = holes trees ≡ 0
HasHoles (context h k) trees = OneHole h k trees

-- a well-formed shape or context of the sort
pub record Shaped (s : Sort) (trees : Trees) : Type 0 where
  pub well_formed : WellFormed trees
  pub width_fits : HasWidth (outer s) (width trees)
  pub holes_fit : HasHoles s trees

-- the first root is the hole, or has it below it
abbrev pub HoleFirst : Trees → Type 0
HoleFirst none = ⊥
HoleFirst (node name number kids list rest) = holes kids ≡ 1
HoleFirst (hole rest) = Unit

-- A context that gives a grove is an inner part and the rest of the roots, so its hole has no place
-- among the roots. In the list of its roots the inner part is the first.
abbrev pub HolePlaced : DataSort → Trees → Type 0
HolePlaced grove trees = HoleFirst trees
HolePlaced k trees = Unit

-- The roots of a grove have no order: two groves are the same where each tree stands as often
-- among the roots of one as among those of the other. Trees and forests are the same where equal.
abbrev pub SameAt : DataSort → Trees → Trees → Type 0
SameAt grove a b = (t : Trees) → root_uses t a ≡ root_uses t b
SameAt k a b = a ≡ b

-- two shapes or contexts of the sort are the same
abbrev pub Same : Sort → Trees → Trees → Type 0
Same s = SameAt (outer s)
