-- Needn't be believed: the program's promise doesn't speak of it. The trees, forests and groves of
-- the definitions that those with raw numbers stand for.
use Rattle.std.specs.Prelude.{List, map}
use Rattle.model_shapes.specs.Trees.{Trees, none, node}
use Rattle.grove_data.specs.Trees.{trees_with}
use Rattle.logic_text.specs.declared.raw_groves.RawTree.{RawTree, fold-RawTree}
use Rattle.logic_text.specs.declared.raw_groves.RawTree.TheOpen.{RawTree-F}

-- a node, each tree of whose children is already what it stands for
abbrev pub raw_tree_step : RawTree-F Trees → Trees
raw_tree_step tree = node tree.name tree.id (trees_with tree.kids) tree.list none

-- the tree
abbrev pub raw_tree_of : RawTree → Trees
raw_tree_of = fold-RawTree Trees raw_tree_step

-- the trees of a forest or a grove
abbrev pub raw_forest_of : List RawTree → Trees
raw_forest_of forest = trees_with (map raw_tree_of forest)
