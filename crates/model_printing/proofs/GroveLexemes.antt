-- The lexemes of a grove, and that they spell it.
use Rattle.std.proofs.Common.{ℕ, List, [], ◌∷◌, ◌++◌, codes}
use Rattle.model_shapes.specs.Values.{Name}
use Rattle.model_shapes.specs.Trees.{Trees, none, node, hole}
use Rattle.model_text.specs.Lexemes.{Lexeme, terminal, number_lexeme, literal_lexeme}
use Rattle.model_documents.specs.Grammar.{one, SpellsForest, SpellsTrees, SpellsRoots, SpellsGrove, tree, empty_forest, some_trees, last_tree, more_trees, last_root, more_roots, empty_grove, some_roots}
use Rattle.model_grammar.specs.Writable.{Each}
use Rattle.model_printing.proofs.Parts.{each_both}
use Rattle.model_printing.specs.Printable.{ArePrintableTrees, HasNoLine}

-- a tree, given those of its children
abbrev pub tree_lexemes : Name → ℕ → List Lexeme → ℕ → List Lexeme
tree_lexemes name number kids list = literal_lexeme name ∷ (terminal (codes "#")
    ∷ (number_lexeme number ∷ (terminal (codes "[") ∷ (kids ++ (terminal (codes "]")
    ∷ (terminal (codes "%") ∷ (number_lexeme list ∷ [])))))))

-- a tree between brackets, before others
abbrev pub between : List ℕ → List Lexeme → List ℕ → List Lexeme → List Lexeme
between left inner right others = terminal left ∷ (inner ++ (terminal right ∷ others))

-- a forest, and the trees behind its first
abbrev mutual
  pub forest_lexemes : Trees → List Lexeme
  forest_lexemes none = one (codes "0f")
  forest_lexemes (node name number kids list rest) = between (codes "<")
      (tree_lexemes name number (forest_lexemes kids) list) (codes ">") (tree_lexemes_behind rest)
  forest_lexemes (hole rest) = forest_lexemes rest

  pub tree_lexemes_behind : Trees → List Lexeme
  tree_lexemes_behind none = []
  tree_lexemes_behind (node name number kids list rest) = terminal (codes "*")
      ∷ between (codes "<") (tree_lexemes name number (forest_lexemes kids) list) (codes ">")
      (tree_lexemes_behind rest)
  tree_lexemes_behind (hole rest) = tree_lexemes_behind rest

-- the roots behind the first, and a grove
abbrev pub root_lexemes_behind : Trees → List Lexeme
root_lexemes_behind none = []
root_lexemes_behind (node name number kids list rest) = terminal (codes "+")
    ∷ between (codes "[") (tree_lexemes name number (forest_lexemes kids) list) (codes "]")
    (root_lexemes_behind rest)
root_lexemes_behind (hole rest) = root_lexemes_behind rest

abbrev pub grove_lexemes : Trees → List Lexeme
grove_lexemes none = one (codes "0g")
grove_lexemes (node name number kids list rest) = between (codes "[")
    (tree_lexemes name number (forest_lexemes kids) list) (codes "]") (root_lexemes_behind rest)
grove_lexemes (hole rest) = grove_lexemes rest

-- THEY SPELL IT
mutual
  forest_spelled : (kids : Trees) → ArePrintableTrees kids
      → SpellsForest kids (forest_lexemes kids)
  forest_spelled none can = empty_forest
  forest_spelled (node name number kids list rest) can =
      some_trees (trees_spelled name number kids list rest (forest_spelled kids can.3) can.4)
  forest_spelled (hole rest) can = absurd can

  trees_spelled : (name : Name) (number : ℕ) (kids : Trees) (list : ℕ) (rest : Trees)
      → SpellsForest kids (forest_lexemes kids) → ArePrintableTrees rest
      → SpellsTrees (node name number kids list rest)
      (forest_lexemes (node name number kids list rest))
  trees_spelled name number kids list none inner can = last_tree (tree name number list inner)
  trees_spelled name number kids list (node other k others l rest) inner can =
      more_trees (tree name number list inner)
      (trees_spelled other k others l rest (forest_spelled others can.3) can.4)
  trees_spelled name number kids list (hole rest) inner can = absurd can

roots_spelled : (name : Name) (number : ℕ) (kids : Trees) (list : ℕ) (rest : Trees)
    → ArePrintableTrees kids → ArePrintableTrees rest
    → SpellsRoots (node name number kids list rest)
    (grove_lexemes (node name number kids list rest))
roots_spelled name number kids list none inner can =
    last_root (tree name number list (forest_spelled kids inner))
roots_spelled name number kids list (node other k others l rest) inner can =
    more_roots (tree name number list (forest_spelled kids inner))
    (roots_spelled other k others l rest can.3 can.4)
roots_spelled name number kids list (hole rest) inner can = absurd can

pub grove_spelled : (grove : Trees) → ArePrintableTrees grove
    → SpellsGrove grove (grove_lexemes grove)
grove_spelled none can = empty_grove
grove_spelled (node name number kids list rest) can =
    some_roots (roots_spelled name number kids list rest can.3 can.4)
grove_spelled (hole rest) can = absurd can

-- NONE HAS A LINE
tree_plain : (name : Name) (number : ℕ) (kids : List Lexeme) (list : ℕ) → Each HasNoLine kids
    → Each HasNoLine (tree_lexemes name number kids list)
tree_plain name number kids list inner =
    (tt, (tt, (tt, (tt, each_both HasNoLine kids _ inner (tt, (tt, (tt, tt)))))))

mutual
  forest_plain : (kids : Trees) → Each HasNoLine (forest_lexemes kids)
  forest_plain none = (tt, tt)
  forest_plain (node name number kids list rest) = (
    tt,
    each_both HasNoLine (tree_lexemes name number (forest_lexemes kids) list) _
        (tree_plain name number (forest_lexemes kids) list (forest_plain kids))
        (tt, behind_plain rest),
  )
  forest_plain (hole rest) = forest_plain rest

  behind_plain : (rest : Trees) → Each HasNoLine (tree_lexemes_behind rest)
  behind_plain none = tt
  behind_plain (node name number kids list rest) = (
    tt,
    (
      tt,
      each_both HasNoLine (tree_lexemes name number (forest_lexemes kids) list) _
          (tree_plain name number (forest_lexemes kids) list (forest_plain kids))
          (tt, behind_plain rest),
    ),
  )
  behind_plain (hole rest) = behind_plain rest

roots_plain : (rest : Trees) → Each HasNoLine (root_lexemes_behind rest)
roots_plain none = tt
roots_plain (node name number kids list rest) = (
  tt,
  (
    tt,
    each_both HasNoLine (tree_lexemes name number (forest_lexemes kids) list) _
        (tree_plain name number (forest_lexemes kids) list (forest_plain kids))
        (tt, roots_plain rest),
  ),
)
roots_plain (hole rest) = roots_plain rest

pub grove_plain : (grove : Trees) → Each HasNoLine (grove_lexemes grove)
grove_plain none = (tt, tt)
grove_plain (node name number kids list rest) = (
  tt,
  each_both HasNoLine (tree_lexemes name number (forest_lexemes kids) list) _
      (tree_plain name number (forest_lexemes kids) list (forest_plain kids))
      (tt, roots_plain rest),
)
grove_plain (hole rest) = grove_plain rest
