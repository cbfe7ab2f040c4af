-- Needn't be believed: the program's promise doesn't speak of it. What can be written: terms,
-- formulas and commands that the grammar reads back.
use Rattle.model_limits.specs.Limits.{standard_limits}
use Rattle.std.specs.Prelude.{◌≡◌, ℕ, suc, ◌≤◌, List, [], ◌∷◌, pos, negsuc}
use Rattle.model_shapes.specs.Sorts.{DataSort, tree, forest, grove}
use Rattle.model_shapes.specs.Values.{node_number, list_number, int}
use Rattle.model_terms.specs.Variables.{Var, prog, logic, bound}
use Rattle.model_terms.specs.Terms.{Term, literal, variable, sum, difference, appended}
use Rattle.model_terms.specs.Stores.{ProgVar, named}
use Rattle.model_terms.specs.Conditions.{Cond, cond_true, cond_false, cond_variable, cond_equal, cond_at_most, cond_not, cond_and, cond_or}
use Rattle.model_formulas.specs.Formulas.{Named, truth, falsity, conjunction, disjunction, implication, negation, existential, universal, equality, at_most, empty, bare_hole, node_formula, one_tree, one_root, concatenation, grove_sum, grove_sum_hole, application, hole_adjoint, context_adjoint, same_as, length_is, value_meets}
use Rattle.model_commands.specs.Commands.{Command, skip, block, assign, create_node, node_name, child_nodes, parent_node, list_item, append_child, remove_child, insert_before, if_else, while_do, local, call, Block, stop, ◌then◌}
use Rattle.model_text.specs.Lexemes.{name_lexeme, logic_lexeme}
use Rattle.model_text.specs.Nesting.{lexemes_of}
use Rattle.model_grammar.specs.Terms.{Place, in_formula, in_command}
use Rattle.model_grammar.specs.Sorts.{Declared}
pub use Rattle.model_commands.specs.Each.{Each}

-- the name is a word that isn't reserved
abbrev pub IsName : List ℕ → Type 0
IsName name = lexemes_of name ≡ name_lexeme name ∷ []

-- the name is one of the logic
abbrev pub IsLogicName : List ℕ → Type 0
IsLogicName name = lexemes_of name ≡ logic_lexeme name ∷ []

-- the variable is one of the program, and its name is one
abbrev pub IsWritableName : ProgVar → Type 0
IsWritableName (named name s) = IsName name

-- the variable is one of the logic, and its name is one
abbrev pub IsLogic : Var → Type 0
IsLogic (logic name s) = IsLogicName name
IsLogic (prog name s) = ⊥
IsLogic (bound i s) = ⊥

-- the term is one
abbrev pub IsLogicTerm : Term → Type 0
IsLogicTerm (variable x) = IsLogic x
IsLogicTerm a = ⊥

-- The term can be written, with variables of the logic or, in a command, without.
abbrev pub IsWritableTerm : Place → Term → Type 0
IsWritableTerm place (literal (node_number n)) = ⊥
IsWritableTerm place (literal (list_number n)) = ⊥
IsWritableTerm place (literal (int (pos n))) = n ≤ standard_limits.integer
IsWritableTerm place (literal (int (negsuc n))) = suc n ≤ standard_limits.integer
IsWritableTerm place (literal v) = Unit
IsWritableTerm place (variable (bound i s)) = ⊥
IsWritableTerm in_formula (variable (logic name s)) = IsLogicName name
IsWritableTerm in_command (variable (logic name s)) = ⊥
IsWritableTerm place (variable (prog name s)) = IsName name
IsWritableTerm place (sum a b) = IsWritableTerm place a × IsWritableTerm place b
IsWritableTerm place (difference a b) = IsWritableTerm place a × IsWritableTerm place b
IsWritableTerm place (appended a b) = IsWritableTerm place a × IsWritableTerm place b

-- there is a word for the shape of the sort that has no tree
abbrev pub HasEmpty : DataSort → Type 0
HasEmpty tree = ⊥
HasEmpty forest = Unit
HasEmpty grove = Unit

-- the formula can be written
abbrev pub IsWritable : Named → Type 0
IsWritable truth = Unit
IsWritable falsity = Unit
IsWritable (conjunction p q) = IsWritable p × IsWritable q
IsWritable (disjunction p q) = IsWritable p × IsWritable q
IsWritable (implication p q) = IsWritable p × IsWritable q
IsWritable (negation p) = IsWritable p
IsWritable (existential x p) = IsLogic x × IsWritable p
IsWritable (universal x p) = IsLogic x × IsWritable p
IsWritable (equality a b) = IsWritableTerm in_formula a × IsWritableTerm in_formula b
IsWritable (at_most a b) = IsWritableTerm in_formula a × IsWritableTerm in_formula b
IsWritable (empty k) = HasEmpty k
IsWritable (bare_hole k) = Unit
IsWritable (node_formula a b p c) =
    IsWritableTerm in_formula a × IsWritableTerm in_formula b × IsWritable p
    × IsWritableTerm in_formula c
IsWritable (one_tree p) = IsWritable p
IsWritable (one_root p) = IsWritable p
IsWritable (concatenation side p q) = IsWritable p × IsWritable q
IsWritable (grove_sum p q) = IsWritable p × IsWritable q
IsWritable (grove_sum_hole p q) = IsWritable p × IsWritable q
IsWritable (application k p q) = IsWritable p × IsWritable q
IsWritable (hole_adjoint p q) = IsWritable p × IsWritable q
IsWritable (context_adjoint k p q) = IsWritable p × IsWritable q
IsWritable (same_as a) = IsLogicTerm a
IsWritable (length_is a) = IsWritableTerm in_formula a
IsWritable (value_meets s a p) = IsLogicTerm a × IsWritable p

-- the condition can be written
abbrev pub IsWritableCondition : Cond → Type 0
IsWritableCondition cond_true = Unit
IsWritableCondition cond_false = Unit
IsWritableCondition (cond_variable x) = IsWritableName x
IsWritableCondition (cond_equal a b) = IsWritableTerm in_command a × IsWritableTerm in_command b
IsWritableCondition (cond_at_most a b) = IsWritableTerm in_command a × IsWritableTerm in_command b
IsWritableCondition (cond_not c) = IsWritableCondition c
IsWritableCondition (cond_and c d) = IsWritableCondition c × IsWritableCondition d
IsWritableCondition (cond_or c d) = IsWritableCondition c × IsWritableCondition d

abbrev mutual
  -- the command can be written: each of its blocks has a command, and none has a logic variable
  pub IsWritableCommand : Command → Type 0
  IsWritableCommand skip = Unit
  IsWritableCommand (block b) = IsWritableBlock b
  IsWritableCommand (assign x a) = IsWritableName x × IsWritableTerm in_command a
  IsWritableCommand (create_node x a) = IsWritableName x × IsWritableTerm in_command a
  IsWritableCommand (node_name x a) = IsWritableName x × IsWritableTerm in_command a
  IsWritableCommand (child_nodes x a) = IsWritableName x × IsWritableTerm in_command a
  IsWritableCommand (parent_node x a) = IsWritableName x × IsWritableTerm in_command a
  IsWritableCommand (list_item x a b) =
      IsWritableName x × IsWritableTerm in_command a × IsWritableTerm in_command b
  IsWritableCommand (append_child a b) =
      IsWritableTerm in_command a × IsWritableTerm in_command b
  IsWritableCommand (remove_child a b) =
      IsWritableTerm in_command a × IsWritableTerm in_command b
  IsWritableCommand (insert_before a b c) =
      IsWritableTerm in_command a × IsWritableTerm in_command b × IsWritableTerm in_command c
  IsWritableCommand (if_else c a b) =
      IsWritableCondition c × IsWritableBlock a × IsWritableBlock b
  IsWritableCommand (while_do c b) = IsWritableCondition c × IsWritableBlock b
  IsWritableCommand (local x b) = IsWritableName x × IsWritableBlock b
  IsWritableCommand (call results name arguments) =
      Each IsWritableName results × IsName name × Each (IsWritableTerm in_command) arguments

  -- a block
  pub IsWritableBlock : Block → Type 0
  IsWritableBlock stop = ⊥
  IsWritableBlock (c then b) = IsWritableCommand c × AreWritable b

  -- the commands behind the first
  pub AreWritable : Block → Type 0
  AreWritable stop = Unit
  AreWritable (c then b) = IsWritableCommand c × AreWritable b

-- nothing is declared, so that each use of a variable has sort node, as the grammar reads it
abbrev pub undeclared : Declared
undeclared = record { variables = []; logics = [] }
