-- Needn't be believed: the program's promise doesn't speak of it. The trees, forests and groves of
-- the definitions, those of PODS 2008, that those of the program stand for.
use Rattle.std.specs.Prelude.{List, [], ◌∷◌, map}
use Rattle.model_shapes.specs.Trees.{Trees, none, node, beside}
use Rattle.grove_data.specs.declared.trees.Tree.{Tree, fold-Tree}
use Rattle.grove_data.specs.declared.trees.Tree.TheOpen.{Tree-F}

-- trees, one after another
abbrev pub trees_with : List Trees → Trees
trees_with [] = none
trees_with (tree ∷ rest) = beside tree (trees_with rest)

-- a node, each tree of whose children is already what it stands for
abbrev pub tree_step : Tree-F Trees → Trees
tree_step tree = node tree.name tree.id (trees_with tree.kids) tree.list none

-- the tree
abbrev pub tree_of : Tree → Trees
tree_of = fold-Tree Trees tree_step

-- the trees of a forest or a grove
abbrev pub forest_of : List Tree → Trees
forest_of forest = trees_with (map tree_of forest)
