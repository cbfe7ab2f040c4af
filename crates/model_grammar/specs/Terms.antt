-- The grammar of terms and of the words for sorts, one case for each production. A use of a
-- variable is read with sort node; `Sorts.antt` sets the sort of its declaration.
use Rattle.model_limits.specs.Limits.{standard_limits}
use Rattle.std.specs.Prelude.{ℕ, suc, ◌≤◌, true, false, List, [], ◌∷◌, codes, pos, negsuc}
use Rattle.model_shapes.specs.Sorts.{ValueSort, node_sort, list_sort, int_sort, str_sort, bool_sort, DataSort, tree, forest, grove, Sort, value, shape, context}
use Rattle.model_shapes.specs.Values.{null, nolist, int, str, boolean}
use Rattle.model_terms.specs.Variables.{Var, prog, logic}
use Rattle.model_terms.specs.Terms.{Term, literal, variable, sum, difference, appended}
use Rattle.model_terms.specs.Stores.{ProgVar, named}
use Rattle.model_text.specs.Lexemes.{Lexeme, name_lexeme, logic_lexeme, number_lexeme, literal_lexeme}
use Rattle.model_grammar.specs.Words.{the, ◌⌢◌}

-- NAME: a word that isn't reserved
pub data SpellsName : List ℕ → List Lexeme → Type 0 where
  a_name : (name : List ℕ) → SpellsName name (name_lexeme name ∷ [])

-- LNAME: `$` and a word
pub data SpellsLogicName : List ℕ → List Lexeme → Type 0 where
  a_logic_name : (name : List ℕ) → SpellsLogicName name (logic_lexeme name ∷ [])

-- a variable of the logic as it is used
abbrev pub used_logic : List ℕ → Var
used_logic name = logic name (value node_sort)

-- a variable of the program as it is used
abbrev pub used_name : List ℕ → ProgVar
used_name name = named name node_sort

-- VSORT = "node" | "list" | "int" | "str" | "bool"
pub data SpellsValueSort : ValueSort → List Lexeme → Type 0 where
  node_word : SpellsValueSort node_sort (name_lexeme (codes "node") ∷ [])
  list_word : SpellsValueSort list_sort (name_lexeme (codes "list") ∷ [])
  int_word : SpellsValueSort int_sort (name_lexeme (codes "int") ∷ [])
  str_word : SpellsValueSort str_sort (name_lexeme (codes "str") ∷ [])
  bool_word : SpellsValueSort bool_sort (name_lexeme (codes "bool") ∷ [])

-- DATASORT = "t" | "f" | "g"
pub data SpellsDataSort : DataSort → List Lexeme → Type 0 where
  tree_word : SpellsDataSort tree (name_lexeme (codes "t") ∷ [])
  forest_word : SpellsDataSort forest (name_lexeme (codes "f") ∷ [])
  grove_word : SpellsDataSort grove (name_lexeme (codes "g") ∷ [])

-- SHAPESORT = DATASORT | "tt" | "tf" | "tg" | "ft" | "ff" | "fg" | "gg"
pub data SpellsShapeSort : Sort → List Lexeme → Type 0 where
  data_sort : {k : DataSort} {word : List Lexeme} → SpellsDataSort k word
      → SpellsShapeSort (shape k) word
  tree_in_tree : SpellsShapeSort (context tree tree) (name_lexeme (codes "tt") ∷ [])
  tree_in_forest : SpellsShapeSort (context tree forest) (name_lexeme (codes "tf") ∷ [])
  tree_in_grove : SpellsShapeSort (context tree grove) (name_lexeme (codes "tg") ∷ [])
  forest_in_tree : SpellsShapeSort (context forest tree) (name_lexeme (codes "ft") ∷ [])
  forest_in_forest : SpellsShapeSort (context forest forest) (name_lexeme (codes "ff") ∷ [])
  forest_in_grove : SpellsShapeSort (context forest grove) (name_lexeme (codes "fg") ∷ [])
  grove_in_grove : SpellsShapeSort (context grove grove) (name_lexeme (codes "gg") ∷ [])

-- SORT = VSORT | SHAPESORT
pub data SpellsSort : Sort → List Lexeme → Type 0 where
  value_sort_word : {s : ValueSort} {word : List Lexeme} → SpellsValueSort s word
      → SpellsSort (value s) word
  shape_sort_word : {s : Sort} {word : List Lexeme} → SpellsShapeSort s word → SpellsSort s word

-- where a term stands: in a formula it may have variables of the logic, in a command it may not
pub data Place : Type 0 where
  in_formula in_command : Place

-- "+" | "-" | "++"
pub data SpellsOperator : (Term → Term → Term) → List Lexeme → Type 0 where
  plus_sign : SpellsOperator sum (the "+")
  minus_sign : SpellsOperator difference (the "-")
  append_sign : SpellsOperator appended (the "++")

-- "null" | "nolist" | "yes" | "no"
pub data SpellsConstant : Term → List Lexeme → Type 0 where
  null_word : SpellsConstant (literal null) (the "null")
  nolist_word : SpellsConstant (literal nolist) (the "nolist")
  yes_word : SpellsConstant (literal (boolean true)) (the "yes")
  no_word : SpellsConstant (literal (boolean false)) (the "no")

-- E = NAME | LNAME | STR | NUM | "-" NUM | "null" | "nolist" | "yes" | "no"
--   | "{" E ("+" | "-" | "++") E "}"
-- The number behind "-" isn't 0: `-1` is `negsuc 0`.
pub data SpellsTerm : Place → Term → List Lexeme → Type 0 where
  program_variable : {place : Place} (name : List ℕ)
      → SpellsTerm place (variable (prog name node_sort)) (name_lexeme name ∷ [])
  logic_variable : (name : List ℕ)
      → SpellsTerm in_formula (variable (used_logic name)) (logic_lexeme name ∷ [])
  text_literal : {place : Place} (text : List ℕ)
      → SpellsTerm place (literal (str text)) (literal_lexeme text ∷ [])
  number_literal : {place : Place} (n : ℕ) → n ≤ standard_limits.integer
      → SpellsTerm place (literal (int (pos n))) (number_lexeme n ∷ [])
  negative_literal : {place : Place} (n : ℕ) → suc n ≤ standard_limits.integer
      → SpellsTerm place (literal (int (negsuc n))) (the "-" ⌢ number_lexeme (suc n) ∷ [])
  constant : {place : Place} {a : Term} {word : List Lexeme} → SpellsConstant a word
      → SpellsTerm place a word
  operation : {place : Place} {operator : Term → Term → Term} {a b : Term}
      {left sign right : List Lexeme}
      → SpellsTerm place a left → SpellsOperator operator sign → SpellsTerm place b right
      → SpellsTerm place (operator a b) (the "{" ⌢ left ⌢ sign ⌢ right ⌢ the "}")
