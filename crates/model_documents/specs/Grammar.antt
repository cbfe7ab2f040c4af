-- The grammar of documents, one case for each production: the trees, forests and groves of PODS
-- 2008 as this language writes them. A number of a node or a list is any number that a token can
-- be.
use Rattle.std.specs.Prelude.{ℕ, List, [], ◌∷◌, ◌++◌, codes}
use Rattle.model_shapes.specs.Values.{Name}
use Rattle.model_shapes.specs.Trees.{Trees, none, node, beside}
use Rattle.model_text.specs.Lexemes.{Lexeme, terminal, number_lexeme, literal_lexeme}

-- a reserved word or symbol by itself
abbrev pub one : List ℕ → List Lexeme
one text = terminal text ∷ []

mutual
  -- tree = STR "#" NUM "[" forest "]" "%" NUM
  pub data SpellsTree : Trees → List Lexeme → Type 0 where
    tree : (name : Name) (number list : ℕ) {kids : Trees} {s : List Lexeme}
        → SpellsForest kids s → SpellsTree (node name number kids list none)
        (literal_lexeme name ∷ (terminal (codes "#") ∷ (number_lexeme number
        ∷ (terminal (codes "[") ∷ (s ++ (terminal (codes "]") ∷ (terminal (codes "%")
        ∷ (number_lexeme list ∷ []))))))))

  -- forest = "0f" | trees
  pub data SpellsForest : Trees → List Lexeme → Type 0 where
    empty_forest : SpellsForest none (one (codes "0f"))
    some_trees : {trees : Trees} {s : List Lexeme} → SpellsTrees trees s → SpellsForest trees s

  -- trees = "<" tree ">" ("*" "<" tree ">")*
  pub data SpellsTrees : Trees → List Lexeme → Type 0 where
    last_tree : {first : Trees} {s : List Lexeme} → SpellsTree first s
        → SpellsTrees first (terminal (codes "<") ∷ (s ++ one (codes ">")))
    more_trees : {first rest : Trees} {s t : List Lexeme}
        → SpellsTree first s → SpellsTrees rest t → SpellsTrees (beside first rest)
        (terminal (codes "<") ∷ (s ++ (terminal (codes ">") ∷ (terminal (codes "*") ∷ t))))

-- roots = "[" tree "]" ("+" "[" tree "]")*
pub data SpellsRoots : Trees → List Lexeme → Type 0 where
  last_root : {first : Trees} {s : List Lexeme} → SpellsTree first s
      → SpellsRoots first (terminal (codes "[") ∷ (s ++ one (codes "]")))
  more_roots : {first rest : Trees} {s t : List Lexeme}
      → SpellsTree first s → SpellsRoots rest t → SpellsRoots (beside first rest)
      (terminal (codes "[") ∷ (s ++ (terminal (codes "]") ∷ (terminal (codes "+") ∷ t))))

-- A DOCUMENT: grove = "0g" | roots
pub data SpellsGrove : Trees → List Lexeme → Type 0 where
  empty_grove : SpellsGrove none (one (codes "0g"))
  some_roots : {roots : Trees} {s : List Lexeme} → SpellsRoots roots s → SpellsGrove roots s
