-- What is written is spelled.
use Rattle.std.proofs.Common.{ℕ, true, false, List, [], ◌∷◌, ◌≡◌, refl, sym, map, subst, append_assoc, append-nil, pos, negsuc}
use Rattle.model_shapes.specs.Sorts.{DataSort, tree, forest, grove, ValueSort, node_sort, list_sort, int_sort, str_sort, bool_sort}
use Rattle.model_shapes.specs.Values.{null, nolist, node_number, list_number, int, str, boolean}
use Rattle.model_terms.specs.Variables.{prog, logic, bound}
use Rattle.model_terms.specs.Terms.{Term, literal, variable, sum, difference, appended}
use Rattle.model_terms.specs.Stores.{ProgVar, named}
use Rattle.model_terms.specs.Conditions.{Cond, cond_true, cond_false, cond_variable, cond_equal, cond_at_most, cond_not, cond_and, cond_or}
use Rattle.model_formulas.specs.Formulas.{Named, Side, whole, hole_left, hole_right, truth, falsity, conjunction, disjunction, implication, negation, existential, universal, equality, at_most, empty, bare_hole, node_formula, one_tree, one_root, concatenation, grove_sum, grove_sum_hole, application, hole_adjoint, context_adjoint, same_as, length_is, value_meets}
use Rattle.model_commands.specs.Commands.{Command, skip, block, assign, create_node, node_name, child_nodes, parent_node, list_item, append_child, remove_child, insert_before, if_else, while_do, local, call, Block, stop, ◌then◌}
use Rattle.model_text.specs.Lexemes.{Lexeme}
use Rattle.model_grammar.specs.Words.{the, ◌⌢◌}
use Rattle.model_grammar.specs.Terms as t
use Rattle.model_grammar.specs.Terms.{Place, in_formula, in_command, SpellsTerm, SpellsValueSort, program_variable, logic_variable, text_literal, number_literal, negative_literal, constant, operation, a_logic_name, a_name}
use Rattle.model_grammar.specs.Formulas as g
use Rattle.model_grammar.specs.Formulas.{SpellsFormula, SpellsConnective}
use Rattle.model_grammar.specs.Commands as c
use Rattle.model_grammar.specs.Commands.{Listed, Bracketed, SpellsVariable, SpellsCondition, SpellsCommand, SpellsBlock, SpellsCommands}
use Rattle.model_grammar.specs.Sorts.{sorted_name, sorted_term, sorted_formula, sorted_cond, sorted_command, sorted_block}
use Rattle.model_grammar.specs.Writing.{name_lexemes, term_lexemes, cond_lexemes, value_sort_lexemes, behind_commas, in_brackets, command_lexemes, block_lexemes, further_commands}
use Rattle.model_grammar.specs.TheoryWriting.{formula_lexemes, at_sign, into_sign, star_sign}
use Rattle.model_grammar.specs.Writable.{undeclared, Each, IsWritableName, IsWritableTerm, IsWritable, IsWritableCondition, IsWritableCommand, IsWritableBlock, AreWritable}

pub term_spelled : (place : Place) (a : Term) → IsWritableTerm place a
    → SpellsTerm place (sorted_term undeclared a) (term_lexemes a)
term_spelled place (literal null) h = constant t.null_word
term_spelled place (literal nolist) h = constant t.nolist_word
term_spelled place (literal (node_number n)) h = absurd h
term_spelled place (literal (list_number n)) h = absurd h
term_spelled place (literal (int (pos n))) h = number_literal n h
term_spelled place (literal (int (negsuc n))) h = negative_literal n h
term_spelled place (literal (str text)) h = text_literal text
term_spelled place (literal (boolean true)) h = constant t.yes_word
term_spelled place (literal (boolean false)) h = constant t.no_word
term_spelled place (variable (prog name s)) h = program_variable name
term_spelled in_formula (variable (logic name s)) h = logic_variable name
term_spelled in_command (variable (logic name s)) h = absurd h
term_spelled place (variable (bound i s)) h = absurd h
term_spelled place (sum a b) h =
    operation (term_spelled place a h.0) t.plus_sign (term_spelled place b h.1)
term_spelled place (difference a b) h =
    operation (term_spelled place a h.0) t.minus_sign (term_spelled place b h.1)
term_spelled place (appended a b) h =
    operation (term_spelled place a h.0) t.append_sign (term_spelled place b h.1)

at_spelled : (k : DataSort) → SpellsConnective (application k) (at_sign k)
at_spelled tree = g.at_tree
at_spelled forest = g.at_forest
at_spelled grove = g.at_grove

into_spelled : (k : DataSort) → SpellsConnective (context_adjoint k) (into_sign k)
into_spelled tree = g.into_tree
into_spelled forest = g.into_forest
into_spelled grove = g.into_grove

star_spelled : (side : Side) → SpellsConnective (concatenation side) (star_sign side)
star_spelled whole = g.star
star_spelled hole_left = g.left_star
star_spelled hole_right = g.right_star

pub formula_spelled : (p : Named) → IsWritable p
    → SpellsFormula (sorted_formula undeclared p) (formula_lexemes p)
formula_spelled truth h = g.a_word g.true_word
formula_spelled falsity h = g.a_word g.false_word
formula_spelled (conjunction p q) h =
    g.joined (formula_spelled p h.0) g.and_word (formula_spelled q h.1)
formula_spelled (disjunction p q) h =
    g.joined (formula_spelled p h.0) g.or_word (formula_spelled q h.1)
formula_spelled (implication p q) h =
    g.joined (formula_spelled p h.0) g.arrow (formula_spelled q h.1)
formula_spelled (negation p) h = g.not (formula_spelled p h)
formula_spelled (existential (logic name s) p) h =
    g.quantified g.exists_word (a_logic_name name) (formula_spelled p h.1)
formula_spelled (existential x p) h = absurd h.0
formula_spelled (universal (logic name s) p) h =
    g.quantified g.forall_word (a_logic_name name) (formula_spelled p h.1)
formula_spelled (universal x p) h = absurd h.0
formula_spelled (equality a b) h =
    g.comparison (term_spelled in_formula a h.0) g.equal_sign (term_spelled in_formula b h.1)
formula_spelled (at_most a b) h =
    g.comparison (term_spelled in_formula a h.0) g.at_most_sign (term_spelled in_formula b h.1)
formula_spelled (empty tree) h = absurd h
formula_spelled (empty forest) h = g.a_word g.empty_forest
formula_spelled (empty grove) h = g.a_word g.empty_grove
formula_spelled (bare_hole tree) h = g.a_word g.tree_hole
formula_spelled (bare_hole forest) h = g.a_word g.forest_hole
formula_spelled (bare_hole grove) h = g.a_word g.grove_hole
formula_spelled (node_formula a b p c) h =
    g.node (term_spelled in_formula a h.0) (term_spelled in_formula b h.1)
    (formula_spelled p h.2) (term_spelled in_formula c h.3)
formula_spelled (one_tree p) h = g.a_tree (formula_spelled p h)
formula_spelled (one_root p) h = g.a_root (formula_spelled p h)
formula_spelled (concatenation side p q) h =
    g.joined (formula_spelled p h.0) (star_spelled side) (formula_spelled q h.1)
formula_spelled (grove_sum p q) h =
    g.joined (formula_spelled p h.0) g.plus (formula_spelled q h.1)
formula_spelled (grove_sum_hole p q) h =
    g.joined (formula_spelled p h.0) g.left_plus (formula_spelled q h.1)
formula_spelled (application k p q) h =
    g.joined (formula_spelled p h.0) (at_spelled k) (formula_spelled q h.1)
formula_spelled (hole_adjoint p q) h =
    g.joined (formula_spelled p h.0) g.lollipop (formula_spelled q h.1)
formula_spelled (context_adjoint k p q) h =
    g.joined (formula_spelled p h.0) (into_spelled k) (formula_spelled q h.1)
formula_spelled (same_as (variable (logic name s))) h = g.shape_variable (a_logic_name name)
formula_spelled (same_as a) h = absurd h
formula_spelled (length_is a) h = g.length (term_spelled in_formula a h)
formula_spelled (value_meets s (variable (logic name x)) p) h =
    g.is (a_logic_name name) (formula_spelled p h.1)
formula_spelled (value_meets s a p) h = absurd h.0

-- ---- conditions and commands

variable_spelled : (x : ProgVar) → SpellsVariable (sorted_name undeclared x) (name_lexemes x)
variable_spelled (named name s) = c.a_variable (a_name name)

condition_spelled : (d : Cond) → IsWritableCondition d
    → SpellsCondition (sorted_cond undeclared d) (cond_lexemes d)
condition_spelled cond_true h = c.true_word
condition_spelled cond_false h = c.false_word
condition_spelled (cond_variable x) h = c.bool_variable (variable_spelled x)
condition_spelled (cond_equal a b) h =
    c.comparison (term_spelled in_command a h.0) c.equal_sign (term_spelled in_command b h.1)
condition_spelled (cond_at_most a b) h =
    c.comparison (term_spelled in_command a h.0) c.at_most_sign (term_spelled in_command b h.1)
condition_spelled (cond_not d) h = c.not (condition_spelled d h)
condition_spelled (cond_and d e) h =
    c.joined (condition_spelled d h.0) c.and_word (condition_spelled e h.1)
condition_spelled (cond_or d e) h =
    c.joined (condition_spelled d h.0) c.or_word (condition_spelled e h.1)

value_sort_spelled : (s : ValueSort) → SpellsValueSort s (value_sort_lexemes s)
value_sort_spelled node_sort = t.node_word
value_sort_spelled list_sort = t.list_word
value_sort_spelled int_sort = t.int_word
value_sort_spelled str_sort = t.str_word
value_sort_spelled bool_sort = t.bool_word

-- ---- lists

module _ {A B : Type 0} (Spells : B → List Lexeme → Type 0) (Can : A → Type 0) (made : A → B)
    (lexemes : A → List Lexeme) (spelled : (x : A) → Can x → Spells (made x) (lexemes x)) where
  list_spelled : (x : A) (xs : List A) → Can x → Each Can xs
      → Listed Spells (made x ∷ map made xs) (lexemes x ⌢ behind_commas (map lexemes xs))
  list_spelled x [] h hs =
      subst (λ (z : List Lexeme). Listed Spells (made x ∷ []) z) (sym (append-nil (lexemes x)))
      (c.last_item (spelled x h))
  list_spelled x (y ∷ xs) h hs =
      c.more_items (spelled x h) (list_spelled y xs hs.0 hs.1)

  brackets_spelled : (xs : List A) → Each Can xs
      → Bracketed Spells (map made xs) (in_brackets (map lexemes xs))
  brackets_spelled [] hs = c.no_item
  brackets_spelled (x ∷ xs) hs = c.some_items (list_spelled x xs hs.0 hs.1)

-- two parts with a comma between them
two_parts : (a b rest : List Lexeme)
    → a ⌢ the "," ⌢ b ⌢ rest ≡ (a ⌢ the "," ⌢ b ⌢ []) ⌢ rest
two_parts a b rest = simp (append_assoc, append-nil) refl

three_parts : (a b d rest : List Lexeme)
    → a ⌢ the "," ⌢ b ⌢ the "," ⌢ d ⌢ rest ≡ (a ⌢ the "," ⌢ b ⌢ the "," ⌢ d ⌢ []) ⌢ rest
three_parts a b d rest = simp (append_assoc, append-nil) refl

one_part : (a rest : List Lexeme) → a ⌢ rest ≡ (a ⌢ []) ⌢ rest
one_part a rest = simp append-nil refl

-- ---- commands

set : (x : ProgVar) {d : Command} {right : List Lexeme}
    → c.SpellsSetting (sorted_name undeclared x) d right
    → SpellsCommand d (name_lexemes x ⌢ the ":=" ⌢ right)
set x l = c.setting (variable_spelled x) l

asked : {query : ProgVar → Term → Command} {word : List Lexeme} → c.SpellsQuery query word
    → (x : ProgVar) (a : Term) → IsWritableTerm in_command a
    → SpellsCommand (query (sorted_name undeclared x) (sorted_term undeclared a))
    (name_lexemes x ⌢ the ":=" ⌢ word ⌢ in_brackets (term_lexemes a ∷ []))
asked {query = query} {word = word} l x a h =
    subst (λ (z : List Lexeme). SpellsCommand
    (query (sorted_name undeclared x) (sorted_term undeclared a))
    (name_lexemes x ⌢ the ":=" ⌢ word ⌢ the "(" ⌢ z)) (one_part (term_lexemes a) (the ")"))
    (set x (c.to_answer l (term_spelled in_command a h)))

changed : {change : Term → Term → Command} {word : List Lexeme}
    → c.SpellsChange change word → (a b : Term) → IsWritableTerm in_command a
    → IsWritableTerm in_command b
    → SpellsCommand (change (sorted_term undeclared a) (sorted_term undeclared b))
    (word ⌢ in_brackets (term_lexemes a ∷ term_lexemes b ∷ []))
changed {change = change} {word = word} l a b h k =
    subst (λ (z : List Lexeme). SpellsCommand
    (change (sorted_term undeclared a) (sorted_term undeclared b)) (word ⌢ the "(" ⌢ z))
    (two_parts (term_lexemes a) (term_lexemes b) (the ")"))
    (c.change l (term_spelled in_command a h) (term_spelled in_command b k))

item_spelled : (x : ProgVar) (a b : Term) → IsWritableTerm in_command a
    → IsWritableTerm in_command b → SpellsCommand (sorted_command undeclared (list_item x a b))
    (command_lexemes (list_item x a b))
item_spelled x a b h k =
    subst (λ (z : List Lexeme). SpellsCommand (sorted_command undeclared (list_item x a b))
    (name_lexemes x ⌢ the ":=" ⌢ the "item" ⌢ the "(" ⌢ z))
    (two_parts (term_lexemes a) (term_lexemes b) (the ")"))
    (set x (c.to_item (term_spelled in_command a h) (term_spelled in_command b k)))

insertion_spelled : (a b d : Term) → IsWritableTerm in_command a → IsWritableTerm in_command b
    → IsWritableTerm in_command d → SpellsCommand (sorted_command undeclared (insert_before a b d))
    (command_lexemes (insert_before a b d))
insertion_spelled a b d h k l =
    subst (λ (z : List Lexeme). SpellsCommand (sorted_command undeclared (insert_before a b d))
    (the "insertBefore" ⌢ the "(" ⌢ z))
    (three_parts (term_lexemes a) (term_lexemes b) (term_lexemes d) (the ")"))
    (c.insertion (term_spelled in_command a h) (term_spelled in_command b k)
    (term_spelled in_command d l))

call_spelled : (xs : List ProgVar) (name : List ℕ) (es : List Term)
    → IsWritableCommand (call xs name es)
    → SpellsCommand (sorted_command undeclared (call xs name es))
    (command_lexemes (call xs name es))
call_spelled xs name es h =
    c.a_call
    (brackets_spelled SpellsVariable IsWritableName (sorted_name undeclared) name_lexemes
    (λ x k. variable_spelled x) xs h.0) (a_name name)
    (brackets_spelled (SpellsTerm in_command) (IsWritableTerm in_command) (sorted_term undeclared)
    term_lexemes (term_spelled in_command) es h.2)

mutual
  pub command_spelled : (d : Command) → IsWritableCommand d
      → SpellsCommand (sorted_command undeclared d) (command_lexemes d)
  command_spelled skip h = c.skip_word
  command_spelled (block b) h = c.braces (block_spelled b h)
  command_spelled (assign x a) h = set x (c.to_value (term_spelled in_command a h.1))
  command_spelled (create_node x a) h = asked c.create_word x a h.1
  command_spelled (node_name x a) h = asked c.name_word x a h.1
  command_spelled (child_nodes x a) h = asked c.children_word x a h.1
  command_spelled (parent_node x a) h = asked c.parent_word x a h.1
  command_spelled (list_item x a b) h = item_spelled x a b h.1 h.2
  command_spelled (append_child a b) h = changed c.append_word a b h.0 h.1
  command_spelled (remove_child a b) h = changed c.remove_word a b h.0 h.1
  command_spelled (insert_before a b d) h = insertion_spelled a b d h.0 h.1 h.2
  command_spelled (if_else d a b) h =
      c.choice (condition_spelled d h.0) (block_spelled a h.1) (block_spelled b h.2)
  command_spelled (while_do d b) h = c.loop (condition_spelled d h.0) (block_spelled b h.1)
  command_spelled (local (named name s) b) h =
      c.with_local (a_name name) (value_sort_spelled s) (block_spelled b h.1)
  command_spelled (call xs name es) h = call_spelled xs name es h

  block_spelled : (b : Block) → IsWritableBlock b
      → SpellsBlock (sorted_block undeclared b) (block_lexemes b)
  block_spelled stop h = absurd h
  block_spelled (d then b) h =
      subst (λ (z : List Lexeme). SpellsBlock (sorted_block undeclared (d then b)) (the "{" ⌢ z))
      (append_assoc (command_lexemes d) (further_commands b) (the "}"))
      (c.in_braces (commands_spelled (command_spelled d h.0) b h.1))

  commands_spelled : {d : Command} {first : List Lexeme} → SpellsCommand d first → (b : Block)
      → AreWritable b
      → SpellsCommands (d then sorted_block undeclared b) (first ⌢ further_commands b)
  commands_spelled {d} {first} l stop hs =
      subst (λ (z : List Lexeme). SpellsCommands (d then stop) z) (sym (append-nil first))
      (c.last_command l)
  commands_spelled l (e then b) hs =
      c.more_commands l (commands_spelled (command_spelled e hs.0) b hs.1)
