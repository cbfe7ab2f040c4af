-- The weakest precondition of a straight-line command as it is written, and the names of the
-- variables that it brings.
use Rattle.std.specs.Prelude.{◌≡◌, ℕ, suc, Bool, true, false, List, [], ◌∷◌, ◌++◌, length, drop, Option, Some, None, slice_get, bytes_eq, codes}
use Rattle.std.specs.List.{list_all, list_any}
use Rattle.std.specs.Fmt.{decimal}
use Rattle.model_shapes.specs.Sorts.{Sort, value, shape, context, node_sort, list_sort, int_sort, str_sort, tree, forest, grove}
use Rattle.model_shapes.specs.Values.{Name, null}
use Rattle.model_terms.specs.Variables.{Var, logic}
use Rattle.model_terms.specs.Terms.{Term, literal, variable, term_with}
use Rattle.model_terms.specs.Stores.{ProgVar, as_var, sort_of}
use Rattle.model_formulas.specs.Changes.{changed}
use Rattle.model_formulas.specs.Formulas.{Named, conjunction, disjunction, equality}
use Rattle.model_formulas.specs.Substitution.{gathered, replacing}
use Rattle.model_commands.specs.CommandParts.{variables_of}
use Rattle.model_commands.specs.Commands.{Command, block, assign, create_node, node_name, child_nodes, parent_node, list_item, append_child, remove_child, insert_before, Block, stop, ◌then◌}
use Rattle.model_weakest.specs.Rows.{value_for, written_taking, written_name, written_children, written_parent, written_item, written_create, written_appended, written_removed, written_inserted, written_moving}

-- NAMES: that of the new variable with this number, with the `$` that each logic name has
abbrev pub numbered : ℕ → Name
numbered n = codes "$w" ++ decimal n

-- it is a logic variable of the name
abbrev pub has_name : Name → Var → Bool
has_name name (logic other s) = bytes_eq name other
has_name name x = false

-- a logic variable of the name is declared
abbrev pub is_declared : List Var → Name → Bool
is_declared declared name = list_any (has_name name) declared

-- these are the names with the numbers from this one on, but for those that are declared
pub data AreNew (declared : List Var) : ℕ → List Name → Type 0 where
  no_more : (n : ℕ) → AreNew declared n []
  passed : (n : ℕ) (names : List Name) → is_declared declared (numbered n) ≡ true
      → AreNew declared (suc n) names → AreNew declared n names
  next : (n : ℕ) (names : List Name) → is_declared declared (numbered n) ≡ false
      → AreNew declared (suc n) names → AreNew declared n (numbered n ∷ names)

-- the sorts of the variables that a row brings: of some tree with a number
abbrev pub tree_sorts : List Sort
tree_sorts = value str_sort ∷ value list_sort ∷ []

-- of the context, the children and the tree that appendChild speaks of
abbrev pub appended_sorts : List Sort
appended_sorts = context tree grove ∷ value str_sort ∷ shape forest ∷ value list_sort ∷ shape tree
    ∷ tree_sorts

-- the sorts of the variables that a command brings, the last command first, and those of a row as
-- they are read
abbrev mutual
  pub new_sorts : Command → List Sort
  new_sorts (block b) = new_sorts_of b
  new_sorts (assign x e) = value (sort_of x) ∷ []
  new_sorts (create_node x e) = value node_sort ∷ value list_sort ∷ []
  new_sorts (node_name x e) = value (sort_of x) ∷ value list_sort ∷ []
  new_sorts (child_nodes x e) = value (sort_of x) ∷ value str_sort ∷ []
  new_sorts (parent_node x e) = value (sort_of x) ∷ value str_sort ∷ value str_sort
      ∷ value list_sort ∷ value list_sort ∷ value str_sort ∷ value list_sort ∷ []
  new_sorts (list_item x e f) = value (sort_of x) ∷ value str_sort ∷ value node_sort
      ∷ value str_sort ∷ value list_sort ∷ value str_sort ∷ value node_sort ∷ value int_sort ∷ []
  new_sorts (append_child e f) = shape grove ∷ appended_sorts
  new_sorts (remove_child e f) = shape grove ∷ context tree grove ∷ value str_sort ∷ shape forest
      ∷ shape forest ∷ value list_sort ∷ shape tree ∷ tree_sorts
  new_sorts (insert_before e f g) = shape grove ∷ appended_sorts ++ (context tree grove
      ∷ value str_sort ∷ shape forest ∷ shape forest ∷ value list_sort ∷ shape tree ∷ shape tree
      ∷ tree_sorts ++ tree_sorts)
  new_sorts command = []

  pub new_sorts_of : Block → List Sort
  new_sorts_of stop = []
  new_sorts_of (c then b) = new_sorts_of b ++ new_sorts c

-- the variables with these names and sorts
abbrev pub new_variables : List Name → List Sort → List Var
new_variables (name ∷ names) (s ∷ sorts) = logic name s ∷ new_variables names sorts
new_variables names sorts = []

-- THE FORMULA: Q with $v for the program variable, which no quantifier binds
abbrev pub put : ProgVar → Name → Named → Named
put x v = changed (λ c y. y) (λ y c. c) term_with (λ a s. s)
    (replacing (as_var x) (variable (value_for x v)))

-- the name, or the empty one where there is none
abbrev pub or_empty : Option Name → Name
or_empty None = []
or_empty (Some name) = name

-- the name at a place, from 0
abbrev pub at : List Name → ℕ → Name
at names n = or_empty (slice_get names n)

-- what a child that goes to the end makes of the grove
abbrev pub appending : List Name → Term → Term → Named
appending names e f = written_appended e f (at names 0) (at names 1) (at names 2) (at names 3)
    (at names 4) (at names 5) (at names 6) (at names 7)

-- the formula of a command and of Q, with these names for the variables that it brings; of one that
-- isn't straight-line nothing is said
abbrev mutual
  pub written : List Name → Command → Named → Named
  written names (block b) q = written_of names b q
  written names (assign x e) q =
      written_taking x (at names 0) (equality (variable (value_for x (at names 0))) e)
      (put x (at names 0) q)
  written names (create_node x e) q =
      written_create (at names 0) (at names 1) e (put x (at names 0) q)
  written names (node_name x e) q =
      written_taking x (at names 0) (written_name x (at names 0) e (at names 1))
      (put x (at names 0) q)
  written names (child_nodes x e) q =
      written_taking x (at names 0) (written_children x (at names 0) e (at names 1))
      (put x (at names 0) q)
  written names (parent_node x e) q =
      written_taking x (at names 0) (written_parent x (at names 0) e (at names 1) (at names 2)
      (at names 3) (at names 4) (at names 5) (at names 6))
      (put x (at names 0) q)
  written names (list_item x e f) q =
      written_taking x (at names 0) (written_item x (at names 0) e f (at names 1) (at names 2)
      (at names 3) (at names 4) (at names 5) (at names 6) (at names 7))
      (put x (at names 0) q)
  written names (append_child e f) q =
      written_moving (at names 0) (appending names e f) q
  written names (remove_child e f) q =
      written_moving (at names 0) (written_removed e f (at names 0) (at names 1) (at names 2)
      (at names 3) (at names 4) (at names 5) (at names 6) (at names 7) (at names 8)) q
  written names (insert_before e f g) q =
      written_moving (at names 0) (disjunction
      (conjunction (equality g (literal null)) (appending names e f))
      (written_inserted e f g (at names 0) (at names 8) (at names 9) (at names 10) (at names 11)
      (at names 12) (at names 13) (at names 14) (at names 15) (at names 16) (at names 17)
      (at names 18))) q
  written names command q = q

  pub written_of : List Name → Block → Named → Named
  written_of names stop q = q
  written_of names (c then b) q =
      written (drop (length (new_sorts_of b)) names) c (written_of names b q)

-- FORMULAS ASKED FOR: the variable is no logic variable, or one that is declared
abbrev pub is_named : List Var → Var → Bool
is_named declared (logic name s) = is_declared declared name
is_named declared x = true

-- a logic variable
abbrev pub is_logic : Var → Bool
is_logic (logic name s) = true
is_logic x = false

-- each logic variable of the formula is declared, and quantifiers bind logic variables alone
pub record AreNamed (declared : List Var) (q : Named) : Type 0 where
  pub known : list_all (is_named declared) (variables_of q) ≡ true
  pub quantified : list_all is_logic (gathered [] ◌++◌ (λ a. []) ◌∷◌ q) ≡ true
