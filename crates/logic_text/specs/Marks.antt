-- Needn't be believed: the definition of printed documents says what the text is. The text of trees
-- between marks, of which those of forests and groves are made.
use Rattle.std.specs.Prelude.{ℕ, List, [], ◌++◌}
use Rattle.model_shapes.specs.Trees.{Trees, none, node, hole}
use Rattle.model_documents.specs.Printed.{tree_text, forest_text}

-- the text of the first tree
abbrev pub inner_text : Trees → List ℕ
inner_text none = []
inner_text (node name number kids list rest) = tree_text name number (forest_text kids) list
inner_text (hole rest) = []

-- each tree between two marks, with another left mark from the second on
abbrev pub marked_text : List ℕ → List ℕ → List ℕ → Trees → List ℕ
marked_text left next_left right none = []
marked_text left next_left right (node name number kids list rest) =
    left ++ (tree_text name number (forest_text kids) list
    ++ (right ++ marked_text next_left next_left right rest))
marked_text left next_left right (hole rest) = marked_text left next_left right rest
