-- The grammar of conditions, commands and lists, one case for each production.
use Rattle.std.specs.Prelude.{ℕ, List, [], ◌∷◌}
use Rattle.model_shapes.specs.Sorts.{ValueSort}
use Rattle.model_terms.specs.Terms.{Term}
use Rattle.model_terms.specs.Stores.{ProgVar, named}
use Rattle.model_terms.specs.Conditions.{Cond, cond_true, cond_false, cond_variable, cond_equal, cond_at_most, cond_not, cond_and, cond_or}
use Rattle.model_commands.specs.Commands.{Command, skip, block, assign, create_node, node_name, child_nodes, parent_node, list_item, append_child, remove_child, insert_before, if_else, while_do, local, call, Block, stop, ◌then◌}
use Rattle.model_text.specs.Lexemes.{Lexeme}
use Rattle.model_grammar.specs.Words.{the, ◌⌢◌}
use Rattle.model_grammar.specs.Terms.{used_name, in_command, SpellsName, SpellsValueSort, SpellsTerm}

-- A ("," A)*
pub data Listed {A : Type 0} (Spells : A → List Lexeme → Type 0) : List A → List Lexeme
    → Type 0 where
  last_item : {x : A} {item : List Lexeme} → Spells x item → Listed Spells (x ∷ []) item
  more_items : {x : A} {xs : List A} {item others : List Lexeme} → Spells x item
      → Listed Spells xs others → Listed Spells (x ∷ xs) (item ⌢ the "," ⌢ others)

-- "(" (A ("," A)*)? ")"
pub data Bracketed {A : Type 0} (Spells : A → List Lexeme → Type 0) : List A → List Lexeme
    → Type 0 where
  no_item : Bracketed Spells [] (the "(" ⌢ the ")")
  some_items : {xs : List A} {items : List Lexeme} → Listed Spells xs items
      → Bracketed Spells xs (the "(" ⌢ items ⌢ the ")")

-- NAME, as a variable that is used
pub data SpellsVariable : ProgVar → List Lexeme → Type 0 where
  a_variable : {name : List ℕ} {word : List Lexeme} → SpellsName name word
      → SpellsVariable (used_name name) word

-- "=" | "<="
pub data SpellsComparison : (Term → Term → Cond) → List Lexeme → Type 0 where
  equal_sign : SpellsComparison cond_equal (the "=")
  at_most_sign : SpellsComparison cond_at_most (the "<=")

-- "and" | "or"
pub data SpellsConnective : (Cond → Cond → Cond) → List Lexeme → Type 0 where
  and_word : SpellsConnective cond_and (the "and")
  or_word : SpellsConnective cond_or (the "or")

-- B = "true" | "false" | NAME | E "=" E | E "<=" E | "(" "not" B ")" | "(" B ("and" | "or") B ")"
pub data SpellsCondition : Cond → List Lexeme → Type 0 where
  true_word : SpellsCondition cond_true (the "true")
  false_word : SpellsCondition cond_false (the "false")
  bool_variable : {x : ProgVar} {word : List Lexeme} → SpellsVariable x word
      → SpellsCondition (cond_variable x) word
  comparison : {compare : Term → Term → Cond} {a b : Term} {left sign right : List Lexeme}
      → SpellsTerm in_command a left → SpellsComparison compare sign
      → SpellsTerm in_command b right → SpellsCondition (compare a b) (left ⌢ sign ⌢ right)
  not : {c : Cond} {inner : List Lexeme} → SpellsCondition c inner
      → SpellsCondition (cond_not c) (the "(" ⌢ the "not" ⌢ inner ⌢ the ")")
  joined : {connective : Cond → Cond → Cond} {c d : Cond} {left sign right : List Lexeme}
      → SpellsCondition c left → SpellsConnective connective sign → SpellsCondition d right
      → SpellsCondition (connective c d) (the "(" ⌢ left ⌢ sign ⌢ right ⌢ the ")")

-- DOM1 = "createNode" | "nodeName" | "parentNode" | "childNodes"
pub data SpellsQuery : (ProgVar → Term → Command) → List Lexeme → Type 0 where
  create_word : SpellsQuery create_node (the "createNode")
  name_word : SpellsQuery node_name (the "nodeName")
  parent_word : SpellsQuery parent_node (the "parentNode")
  children_word : SpellsQuery child_nodes (the "childNodes")

-- "appendChild" | "removeChild"
pub data SpellsChange : (Term → Term → Command) → List Lexeme → Type 0 where
  append_word : SpellsChange append_child (the "appendChild")
  remove_word : SpellsChange remove_child (the "removeChild")

-- E | DOM1 "(" E ")" | "item" "(" E "," E ")": what is set, behind the variable and its sign
pub data SpellsSetting (x : ProgVar) : Command → List Lexeme → Type 0 where
  to_value : {a : Term} {right : List Lexeme} → SpellsTerm in_command a right
      → SpellsSetting x (assign x a) right
  to_answer : {query : ProgVar → Term → Command} {a : Term} {word argument : List Lexeme}
      → SpellsQuery query word → SpellsTerm in_command a argument
      → SpellsSetting x (query x a) (word ⌢ the "(" ⌢ argument ⌢ the ")")
  to_item : {a b : Term} {list place : List Lexeme}
      → SpellsTerm in_command a list → SpellsTerm in_command b place
      → SpellsSetting x (list_item x a b)
      (the "item" ⌢ the "(" ⌢ list ⌢ the "," ⌢ place ⌢ the ")")

mutual
  -- C = "skip" | BL | "if" B BL "else" BL | "while" B BL | "local" NAME ":" VSORT BL
  --   | "call" "(" (NAME ("," NAME)*)? ")" ":=" NAME "(" (E ("," E)*)? ")"
  --   | "appendChild" "(" E "," E ")" | "removeChild" "(" E "," E ")"
  --   | "insertBefore" "(" E "," E "," E ")" | NAME ":=" E
  --   | NAME ":=" DOM1 "(" E ")" | NAME ":=" "item" "(" E "," E ")"
  -- A local variable has the sort that is written here.
  pub data SpellsCommand : Command → List Lexeme → Type 0 where
    skip_word : SpellsCommand skip (the "skip")
    braces : {b : Block} {inner : List Lexeme} → SpellsBlock b inner
        → SpellsCommand (block b) inner
    choice : {c : Cond} {a b : Block} {test first second : List Lexeme}
        → SpellsCondition c test → SpellsBlock a first → SpellsBlock b second
        → SpellsCommand (if_else c a b) (the "if" ⌢ test ⌢ first ⌢ the "else" ⌢ second)
    loop : {c : Cond} {b : Block} {test inner : List Lexeme}
        → SpellsCondition c test → SpellsBlock b inner
        → SpellsCommand (while_do c b) (the "while" ⌢ test ⌢ inner)
    with_local : {name : List ℕ} {s : ValueSort} {b : Block} {word sort inner : List Lexeme}
        → SpellsName name word → SpellsValueSort s sort → SpellsBlock b inner
        → SpellsCommand (local (named name s) b)
        (the "local" ⌢ word ⌢ the ":" ⌢ sort ⌢ inner)
    a_call : {xs : List ProgVar} {name : List ℕ} {es : List Term}
        {results word arguments : List Lexeme} → Bracketed SpellsVariable xs results
        → SpellsName name word → Bracketed (SpellsTerm in_command) es arguments
        → SpellsCommand (call xs name es) (the "call" ⌢ results ⌢ the ":=" ⌢ word ⌢ arguments)
    change : {operation : Term → Term → Command} {a b : Term} {word parent child : List Lexeme}
        → SpellsChange operation word → SpellsTerm in_command a parent
        → SpellsTerm in_command b child → SpellsCommand (operation a b)
        (word ⌢ the "(" ⌢ parent ⌢ the "," ⌢ child ⌢ the ")")
    insertion : {a b c : Term} {parent child next : List Lexeme}
        → SpellsTerm in_command a parent → SpellsTerm in_command b child
        → SpellsTerm in_command c next → SpellsCommand (insert_before a b c)
        (the "insertBefore" ⌢ the "(" ⌢ parent ⌢ the "," ⌢ child ⌢ the "," ⌢ next ⌢ the ")")
    setting : {x : ProgVar} {c : Command} {word right : List Lexeme} → SpellsVariable x word
        → SpellsSetting x c right → SpellsCommand c (word ⌢ the ":=" ⌢ right)

  -- BL = "{" C (";" C)* "}"
  pub data SpellsBlock : Block → List Lexeme → Type 0 where
    in_braces : {b : Block} {inner : List Lexeme} → SpellsCommands b inner
        → SpellsBlock b (the "{" ⌢ inner ⌢ the "}")

  -- C (";" C)*
  pub data SpellsCommands : Block → List Lexeme → Type 0 where
    last_command : {c : Command} {only : List Lexeme} → SpellsCommand c only
        → SpellsCommands (c then stop) only
    more_commands : {c : Command} {b : Block} {first others : List Lexeme}
        → SpellsCommand c first → SpellsCommands b others
        → SpellsCommands (c then b) (first ⌢ the ";" ⌢ others)
