-- The text of commands as the program prints them, byte by byte: their lexemes, what is printed for
-- each, and one space between each two.
use Rattle.std.specs.Prelude.{ℕ, suc, true, false, List, [], ◌∷◌, ◌++◌, codes, map, pos, negsuc}
use Rattle.std.specs.Fmt.{decimal}
use Rattle.model_shapes.specs.Sorts.{ValueSort, node_sort, list_sort, int_sort, str_sort, bool_sort}
use Rattle.model_shapes.specs.Values.{null, nolist, node_number, list_number, int, str, boolean}
use Rattle.model_terms.specs.Variables.{Var, prog, logic, bound}
use Rattle.model_terms.specs.Terms.{Term, literal, variable, sum, difference, appended}
use Rattle.model_terms.specs.Stores.{ProgVar, named}
use Rattle.model_terms.specs.Conditions.{Cond, cond_true, cond_false, cond_variable, cond_equal, cond_at_most, cond_not, cond_and, cond_or}
use Rattle.model_commands.specs.Commands.{Command, skip, block, assign, create_node, node_name, child_nodes, parent_node, list_item, append_child, remove_child, insert_before, if_else, while_do, local, call, Block, stop, ◌then◌}
use Rattle.model_text.specs.Lexemes.{Lexeme, terminal, step_word, name_lexeme, logic_lexeme, number_lexeme, literal_lexeme, bad_lexeme}
use Rattle.model_documents.specs.Printed.{quoted}
use Rattle.model_grammar.specs.Words.{the, ◌⌢◌}

-- ---- lexemes as text

-- what is printed for a lexeme
abbrev pub printed : Lexeme → List ℕ
printed (terminal text) = text
printed (step_word line) = codes "step"
printed (name_lexeme name) = name
printed (logic_lexeme name) = name
printed (number_lexeme n) = decimal n
printed (literal_lexeme text) = quoted text
printed bad_lexeme = []

-- each with a space before it
abbrev pub spaced : List Lexeme → List ℕ
spaced [] = []
spaced (first ∷ rest) = codes " " ++ (printed first ++ spaced rest)

-- one space between each two
abbrev pub text_of : List Lexeme → List ℕ
text_of [] = []
text_of (first ∷ rest) = printed first ++ spaced rest

-- ---- terms

-- a variable of a program
abbrev pub name_lexemes : ProgVar → List Lexeme
name_lexemes (named name s) = name_lexeme name ∷ []

-- a variable; a bound one without a name isn't written
abbrev pub var_lexemes : Var → List Lexeme
var_lexemes (prog name s) = name_lexeme name ∷ []
var_lexemes (logic name s) = logic_lexeme name ∷ []
var_lexemes (bound i s) = []

-- two parts between braces
abbrev pub braced : List Lexeme → List Lexeme → List Lexeme → List Lexeme
braced left sign right = the "{" ⌢ left ⌢ sign ⌢ right ⌢ the "}"

-- a term; a node or list number isn't written
abbrev pub term_lexemes : Term → List Lexeme
term_lexemes (literal null) = the "null"
term_lexemes (literal nolist) = the "nolist"
term_lexemes (literal (node_number n)) = []
term_lexemes (literal (list_number n)) = []
term_lexemes (literal (int (pos n))) = number_lexeme n ∷ []
term_lexemes (literal (int (negsuc n))) = the "-" ⌢ number_lexeme (suc n) ∷ []
term_lexemes (literal (str text)) = literal_lexeme text ∷ []
term_lexemes (literal (boolean true)) = the "yes"
term_lexemes (literal (boolean false)) = the "no"
term_lexemes (variable x) = var_lexemes x
term_lexemes (sum a b) = braced (term_lexemes a) (the "+") (term_lexemes b)
term_lexemes (difference a b) = braced (term_lexemes a) (the "-") (term_lexemes b)
term_lexemes (appended a b) = braced (term_lexemes a) (the "++") (term_lexemes b)

-- ---- conditions and commands

-- two parts in brackets
abbrev pub bracketed : List Lexeme → List Lexeme → List Lexeme → List Lexeme
bracketed left sign right = the "(" ⌢ left ⌢ sign ⌢ right ⌢ the ")"

-- a condition
abbrev pub cond_lexemes : Cond → List Lexeme
cond_lexemes cond_true = the "true"
cond_lexemes cond_false = the "false"
cond_lexemes (cond_variable x) = name_lexemes x
cond_lexemes (cond_equal a b) = term_lexemes a ⌢ the "=" ⌢ term_lexemes b
cond_lexemes (cond_at_most a b) = term_lexemes a ⌢ the "<=" ⌢ term_lexemes b
cond_lexemes (cond_not c) = the "(" ⌢ the "not" ⌢ cond_lexemes c ⌢ the ")"
cond_lexemes (cond_and c d) = bracketed (cond_lexemes c) (the "and") (cond_lexemes d)
cond_lexemes (cond_or c d) = bracketed (cond_lexemes c) (the "or") (cond_lexemes d)

-- a word for the sort of a value
abbrev pub value_sort_lexemes : ValueSort → List Lexeme
value_sort_lexemes node_sort = name_lexeme (codes "node") ∷ []
value_sort_lexemes list_sort = name_lexeme (codes "list") ∷ []
value_sort_lexemes int_sort = name_lexeme (codes "int") ∷ []
value_sort_lexemes str_sort = name_lexeme (codes "str") ∷ []
value_sort_lexemes bool_sort = name_lexeme (codes "bool") ∷ []

-- parts, each but the first behind a comma
abbrev pub behind_commas : List (List Lexeme) → List Lexeme
behind_commas [] = []
behind_commas (first ∷ rest) = the "," ⌢ first ⌢ behind_commas rest

-- parts with commas between them
abbrev pub listed : List (List Lexeme) → List Lexeme
listed [] = []
listed (first ∷ rest) = first ⌢ behind_commas rest

-- parts with commas between them, in brackets
abbrev pub in_brackets : List (List Lexeme) → List Lexeme
in_brackets parts = the "(" ⌢ listed parts ⌢ the ")"

-- what is set, behind its variable
abbrev pub set_to : ProgVar → List Lexeme → List Lexeme
set_to x right = name_lexemes x ⌢ the ":=" ⌢ right

abbrev mutual
  -- a command
  pub command_lexemes : Command → List Lexeme
  command_lexemes skip = the "skip"
  command_lexemes (block b) = block_lexemes b
  command_lexemes (assign x a) = set_to x (term_lexemes a)
  command_lexemes (create_node x a) =
      set_to x (the "createNode" ⌢ in_brackets (term_lexemes a ∷ []))
  command_lexemes (node_name x a) =
      set_to x (the "nodeName" ⌢ in_brackets (term_lexemes a ∷ []))
  command_lexemes (child_nodes x a) =
      set_to x (the "childNodes" ⌢ in_brackets (term_lexemes a ∷ []))
  command_lexemes (parent_node x a) =
      set_to x (the "parentNode" ⌢ in_brackets (term_lexemes a ∷ []))
  command_lexemes (list_item x a b) =
      set_to x (the "item" ⌢ in_brackets (term_lexemes a ∷ term_lexemes b ∷ []))
  command_lexemes (append_child a b) =
      the "appendChild" ⌢ in_brackets (term_lexemes a ∷ term_lexemes b ∷ [])
  command_lexemes (remove_child a b) =
      the "removeChild" ⌢ in_brackets (term_lexemes a ∷ term_lexemes b ∷ [])
  command_lexemes (insert_before a b c) =
      the "insertBefore" ⌢ in_brackets (term_lexemes a ∷ term_lexemes b ∷ term_lexemes c ∷ [])
  command_lexemes (if_else c a b) =
      the "if" ⌢ cond_lexemes c ⌢ block_lexemes a ⌢ the "else" ⌢ block_lexemes b
  command_lexemes (while_do c b) = the "while" ⌢ cond_lexemes c ⌢ block_lexemes b
  command_lexemes (local (named name s) b) =
      the "local" ⌢ name_lexeme name ∷ [] ⌢ the ":" ⌢ value_sort_lexemes s ⌢ block_lexemes b
  command_lexemes (call results name arguments) =
      the "call" ⌢ in_brackets (map name_lexemes results) ⌢ the ":=" ⌢ name_lexeme name ∷ []
      ⌢ in_brackets (map term_lexemes arguments)

  -- a block, with its braces
  pub block_lexemes : Block → List Lexeme
  block_lexemes stop = the "{" ⌢ the "}"
  block_lexemes (c then b) = the "{" ⌢ command_lexemes c ⌢ further_commands b ⌢ the "}"

  -- the commands behind the first
  pub further_commands : Block → List Lexeme
  further_commands stop = []
  further_commands (c then b) = the ";" ⌢ command_lexemes c ⌢ further_commands b
