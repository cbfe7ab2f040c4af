-- The text of literals and groves as the program prints them, byte by byte.
use Rattle.std.specs.Prelude.{ℕ, ◌==◌, cond, List, [], ◌∷◌, ◌++◌, codes}
use Rattle.std.specs.Fmt.{decimal}
use Rattle.model_shapes.specs.Trees.{Trees, none, node, hole}
use Rattle.model_text.specs.Tokens.{newline, quote, backslash, letter_n}

-- a byte of a literal: a quote, a backslash and a newline are escaped
abbrev pub escaped_byte : ℕ → List ℕ
escaped_byte byte = cond (byte == quote) (backslash ∷ quote ∷ [])
    (cond (byte == backslash) (backslash ∷ backslash ∷ [])
    (cond (byte == newline) (backslash ∷ letter_n ∷ []) (byte ∷ [])))

-- the bytes of a literal between its quotes
abbrev pub escaped : List ℕ → List ℕ
escaped [] = []
escaped (byte ∷ rest) = escaped_byte byte ++ escaped rest

-- the literal that stands for the text
abbrev pub quoted : List ℕ → List ℕ
quoted text = quote ∷ (escaped text ++ quote ∷ [])

-- the text of a tree, given that of its children
abbrev pub tree_text : List ℕ → ℕ → List ℕ → ℕ → List ℕ
tree_text name number kids list =
    quoted name ++ (codes "#" ++ (decimal number
    ++ (codes "[" ++ (kids ++ (codes "]%" ++ decimal list)))))

-- the text of a forest: its trees in `<` and `>`, with ` * ` between them; there is no hole in it
abbrev mutual
  pub forest_text : Trees → List ℕ
  forest_text none = codes "0f"
  forest_text (node name number kids list rest) =
      codes "<" ++ (tree_text name number (forest_text kids) list
      ++ (codes ">" ++ further_trees rest))
  forest_text (hole rest) = forest_text rest

  -- the trees behind the first
  pub further_trees : Trees → List ℕ
  further_trees none = []
  further_trees (node name number kids list rest) =
      codes " * <"
      ++ (tree_text name number (forest_text kids) list ++ (codes ">" ++ further_trees rest))
  further_trees (hole rest) = further_trees rest

-- the roots behind the first
abbrev pub further_roots : Trees → List ℕ
further_roots none = []
further_roots (node name number kids list rest) =
    codes " + ["
    ++ (tree_text name number (forest_text kids) list ++ (codes "]" ++ further_roots rest))
further_roots (hole rest) = further_roots rest

-- the text of a grove, in this order of its roots
abbrev pub grove_text : Trees → List ℕ
grove_text none = codes "0g"
grove_text (node name number kids list rest) =
    codes "[" ++ (tree_text name number (forest_text kids) list
    ++ (codes "]" ++ further_roots rest))
grove_text (hole rest) = grove_text rest
