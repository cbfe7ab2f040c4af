-- Needn't be believed: the grammar says what they read. The readers of trees, forests and groves on
-- lists of lexemes, each with one lexeme of look-ahead. Depth bounds the nesting and `most` the
-- length of lists.
use Rattle.std.specs.Prelude.{ℕ, zero, suc, List, Option, Some, None, Err, codes}
use Rattle.model_shapes.specs.Trees.{Trees, none, node}
use Rattle.model_text.specs.Lexemes.{Lexeme, number_lexeme, literal_lexeme}
use Rattle.grove_data.specs.Trees.{trees_with}
use Rattle.token_readers.specs.Reading.{Read, Deep, ret, then, when, expect, leaf, sep_list}

-- a text literal, by the text that it stands for
abbrev pub leaf_literal : Lexeme → Option (List ℕ)
leaf_literal (literal_lexeme text) = Some text
leaf_literal _ = None

-- a number as large as a token can be
abbrev pub leaf_number : Lexeme → Option ℕ
leaf_number (number_lexeme n) = Some n
leaf_number _ = None

-- a tree between two marks
unfoldable pub marked_at : List ℕ → List ℕ → Read Trees → Read Trees
marked_at left right tree = expect left (then tree λ a. expect right (ret a))

-- one or more trees, each between two marks, with a third between each two
unfoldable pub some_at : List ℕ → List ℕ → List ℕ → ℕ → Read Trees → Read Trees
some_at left right between most tree =
    then (sep_list between (marked_at left right tree) most) λ trees. ret (trees_with trees)

-- a forest, with the reader of its trees
unfoldable pub forest_at : ℕ → Read Trees → Read Trees
forest_at most tree =
    when (codes "0f") (ret none) (some_at (codes "<") (codes ">") (codes "*") most tree)

-- a node, with the reader of its children
unfoldable pub node_at : Read Trees → Read Trees
node_at forest =
    then (leaf leaf_literal) λ name. expect (codes "#") (then (leaf leaf_number) λ number.
    expect (codes "[") (then forest λ kids. expect (codes "]") (expect (codes "%")
    (then (leaf leaf_number) λ list. ret (node name number kids list none)))))

-- a tree, nested at most so deep
unfoldable pub tree_at : ℕ → ℕ → Read Trees
tree_at most zero ts = Err Deep
tree_at most (suc n) ts = node_at (forest_at most (tree_at most n)) ts

-- a grove
unfoldable pub grove_at : ℕ → ℕ → Read Trees
grove_at most depth =
    when (codes "0g") (ret none)
    (some_at (codes "[") (codes "]") (codes "+") most (tree_at most depth))
