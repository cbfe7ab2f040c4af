-- The grammar of formulas, one case for each production.
use Rattle.std.specs.Prelude.{List, ℕ}
use Rattle.model_shapes.specs.Sorts.{tree, forest, grove, value, node_sort}
use Rattle.model_terms.specs.Variables.{Var}
use Rattle.model_terms.specs.Terms.{Term, variable}
use Rattle.model_formulas.specs.Formulas.{Named, whole, hole_left, hole_right, truth, falsity, conjunction, disjunction, implication, negation, existential, universal, equality, at_most, empty, bare_hole, node_formula, one_tree, one_root, concatenation, grove_sum, grove_sum_hole, application, hole_adjoint, context_adjoint, same_as, length_is, value_meets}
use Rattle.model_text.specs.Lexemes.{Lexeme}
use Rattle.model_grammar.specs.Words.{the, ◌⌢◌}
use Rattle.model_grammar.specs.Terms.{used_logic, in_formula, SpellsTerm, SpellsLogicName}

-- "true" | "false" | "0f" | "0g" | "?t" | "?f" | "?g"
pub data SpellsWord : Named → List Lexeme → Type 0 where
  true_word : SpellsWord truth (the "true")
  false_word : SpellsWord falsity (the "false")
  empty_forest : SpellsWord (empty forest) (the "0f")
  empty_grove : SpellsWord (empty grove) (the "0g")
  tree_hole : SpellsWord (bare_hole tree) (the "?t")
  forest_hole : SpellsWord (bare_hole forest) (the "?f")
  grove_hole : SpellsWord (bare_hole grove) (the "?g")

-- "=" | "<="
pub data SpellsComparison : (Term → Term → Named) → List Lexeme → Type 0 where
  equal_sign : SpellsComparison equality (the "=")
  at_most_sign : SpellsComparison at_most (the "<=")

-- "exists" | "forall"
pub data SpellsQuantifier : (Var → Named → Named) → List Lexeme → Type 0 where
  exists_word : SpellsQuantifier existential (the "exists")
  forall_word : SpellsQuantifier universal (the "forall")

-- OP = "and" | "or" | "->" | "*" | ".*" | "*." | "+" | ".+" | "@t" | "@f" | "@g" | "-o" | "o-t"
--    | "o-f" | "o-g"
pub data SpellsConnective : (Named → Named → Named) → List Lexeme → Type 0 where
  and_word : SpellsConnective conjunction (the "and")
  or_word : SpellsConnective disjunction (the "or")
  arrow : SpellsConnective implication (the "->")
  star : SpellsConnective (concatenation whole) (the "*")
  left_star : SpellsConnective (concatenation hole_left) (the ".*")
  right_star : SpellsConnective (concatenation hole_right) (the "*.")
  plus : SpellsConnective grove_sum (the "+")
  left_plus : SpellsConnective grove_sum_hole (the ".+")
  at_tree : SpellsConnective (application tree) (the "@t")
  at_forest : SpellsConnective (application forest) (the "@f")
  at_grove : SpellsConnective (application grove) (the "@g")
  lollipop : SpellsConnective hole_adjoint (the "-o")
  into_tree : SpellsConnective (context_adjoint tree) (the "o-t")
  into_forest : SpellsConnective (context_adjoint forest) (the "o-f")
  into_grove : SpellsConnective (context_adjoint grove) (the "o-g")

-- F = "true" | "false" | "0f" | "0g" | "?t" | "?f" | "?g" | LNAME | E "=" E | E "<=" E
--   | E "#" E "[" F "]" "%" E | "len" E | "<" F ">" | "[" F "]" | "(" "not" F ")"
--   | "(" ("exists" | "forall") LNAME "." F ")" | "(" LNAME "is" F ")" | "(" F OP F ")"
pub data SpellsFormula : Named → List Lexeme → Type 0 where
  a_word : {p : Named} {word : List Lexeme} → SpellsWord p word → SpellsFormula p word
  shape_variable : {name : List ℕ} {word : List Lexeme} → SpellsLogicName name word
      → SpellsFormula (same_as (variable (used_logic name))) word
  comparison : {compare : Term → Term → Named} {a b : Term} {left sign right : List Lexeme}
      → SpellsTerm in_formula a left → SpellsComparison compare sign
      → SpellsTerm in_formula b right → SpellsFormula (compare a b) (left ⌢ sign ⌢ right)
  node : {a b c : Term} {p : Named} {name number children list : List Lexeme}
      → SpellsTerm in_formula a name → SpellsTerm in_formula b number
      → SpellsFormula p children → SpellsTerm in_formula c list
      → SpellsFormula (node_formula a b p c)
      (name ⌢ the "#" ⌢ number ⌢ the "[" ⌢ children ⌢ the "]" ⌢ the "%" ⌢ list)
  length : {a : Term} {number : List Lexeme} → SpellsTerm in_formula a number
      → SpellsFormula (length_is a) (the "len" ⌢ number)
  a_tree : {p : Named} {inner : List Lexeme} → SpellsFormula p inner
      → SpellsFormula (one_tree p) (the "<" ⌢ inner ⌢ the ">")
  a_root : {p : Named} {inner : List Lexeme} → SpellsFormula p inner
      → SpellsFormula (one_root p) (the "[" ⌢ inner ⌢ the "]")
  not : {p : Named} {inner : List Lexeme} → SpellsFormula p inner
      → SpellsFormula (negation p) (the "(" ⌢ the "not" ⌢ inner ⌢ the ")")
  quantified : {quantifier : Var → Named → Named} {name : List ℕ} {p : Named}
      {kind word inner : List Lexeme} → SpellsQuantifier quantifier kind
      → SpellsLogicName name word → SpellsFormula p inner
      → SpellsFormula (quantifier (used_logic name) p)
      (the "(" ⌢ kind ⌢ word ⌢ the "." ⌢ inner ⌢ the ")")
  is : {name : List ℕ} {p : Named} {word inner : List Lexeme} → SpellsLogicName name word
      → SpellsFormula p inner
      → SpellsFormula (value_meets (value node_sort) (variable (used_logic name)) p)
      (the "(" ⌢ word ⌢ the "is" ⌢ inner ⌢ the ")")
  joined : {connective : Named → Named → Named} {p q : Named} {left sign right : List Lexeme}
      → SpellsFormula p left → SpellsConnective connective sign → SpellsFormula q right
      → SpellsFormula (connective p q) (the "(" ⌢ left ⌢ sign ⌢ right ⌢ the ")")
