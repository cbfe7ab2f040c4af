-- What holds of each lexeme that can be written holds of those of formulas, commands and theories.
use Rattle.std.proofs.Common.{ℕ, suc, ◌≤◌, List, [], ◌∷◌, ◌++◌, ◌≡◌, true, false, refl, map, pos, negsuc, bytes_eq, codes, arith}
use Rattle.std.specs.List.{list_any}
use Rattle.model_limits.specs.Limits.{standard_limits}
use Rattle.model_shapes.specs.Sorts.{ValueSort, node_sort, list_sort, int_sort, str_sort, bool_sort, DataSort, tree, forest, grove, Sort, value, shape, context}
use Rattle.model_shapes.specs.Values.{null, nolist, node_number, list_number, int, str, boolean}
use Rattle.model_terms.specs.Variables.{Var, prog, logic, bound, var_sort}
use Rattle.model_terms.specs.Terms.{Term, literal, variable, sum, difference, appended}
use Rattle.model_terms.specs.Stores.{ProgVar, named}
use Rattle.model_terms.specs.Conditions.{Cond, cond_true, cond_false, cond_variable, cond_equal, cond_at_most, cond_not, cond_and, cond_or}
use Rattle.model_formulas.specs.Formulas.{Named, Side, whole, hole_left, hole_right, truth, falsity, conjunction, disjunction, implication, negation, existential, universal, equality, at_most, empty, bare_hole, node_formula, one_tree, one_root, concatenation, grove_sum, grove_sum_hole, application, hole_adjoint, context_adjoint, same_as, length_is, value_meets}
use Rattle.model_commands.specs.Commands.{Command, skip, block, assign, create_node, node_name, child_nodes, parent_node, list_item, append_child, remove_child, insert_before, if_else, while_do, local, call, Block, stop, ◌then◌}
use Rattle.model_commands.specs.Theories.{JudgementOf, entails, triple, ProcedureOf}
use Rattle.model_text.specs.Lexemes.{Lexeme, terminal, name_lexeme, logic_lexeme, number_lexeme, literal_lexeme}
use Rattle.model_text.specs.Versions.{insert_word}
use Rattle.model_text.proofs.OfTokens.{terminals}
use Rattle.model_text.proofs.Computing.{lexing}
use Rattle.model_grammar.specs.Words.{the, ◌⌢◌}
use Rattle.model_grammar.specs.Terms.{Place, in_formula, in_command}
use Rattle.model_grammar.specs.Writing.{name_lexemes, var_lexemes, term_lexemes, bracketed, cond_lexemes, value_sort_lexemes, behind_commas, listed, in_brackets, command_lexemes, block_lexemes, further_commands}
use Rattle.model_grammar.specs.TheoryWriting.{hole_sign, star_sign, at_sign, into_sign, formula_lexemes, data_sort_lexemes, sort_lexemes, declaration_lexemes, number_lexemes, argument_lexemes, judgement_lexemes, logic_line, all_lexemes}
use Rattle.model_grammar.specs.Writable.{Each, IsName, IsLogicName, IsWritableName, IsLogic, IsLogicTerm, IsWritableTerm, IsWritable, IsWritableCondition, IsWritableCommand, IsWritableBlock, AreWritable}
use Rattle.model_round_trip.specs.Writable.{IsNumeral, IsDeclarable, IsWritableJudgement, IsWritableProcedure}
use Rattle.model_round_trip.proofs.Parts.{each_append, header_lines}

-- it holds of the words and symbols of the grammar, of names and numbers, and of any literal
pub record HoldsOfWritten (Can : Lexeme → Type 0) : Type 0 where
  pub of_terminal : (text : List ℕ) → list_any (bytes_eq text) terminals ≡ true
      → Can (terminal text)
  pub of_name : (name : List ℕ) → IsName name → Can (name_lexeme name)
  pub of_logic : (name : List ℕ) → IsLogicName name → Can (logic_lexeme name)
  pub of_number : (n : ℕ) → n ≤ standard_limits.integer → Can (number_lexeme n)
  pub of_literal : (text : List ℕ) → Can (literal_lexeme text)

-- the words for sorts are names
node_is_name : IsName (codes "node")
unfolding lexing
node_is_name = refl

list_is_name : IsName (codes "list")
unfolding lexing
list_is_name = refl

int_is_name : IsName (codes "int")
unfolding lexing
int_is_name = refl

str_is_name : IsName (codes "str")
unfolding lexing
str_is_name = refl

bool_is_name : IsName (codes "bool")
unfolding lexing
bool_is_name = refl

t_is_name : IsName (codes "t")
unfolding lexing
t_is_name = refl

f_is_name : IsName (codes "f")
unfolding lexing
f_is_name = refl

g_is_name : IsName (codes "g")
unfolding lexing
g_is_name = refl

tt_is_name : IsName (codes "tt")
unfolding lexing
tt_is_name = refl

tf_is_name : IsName (codes "tf")
unfolding lexing
tf_is_name = refl

tg_is_name : IsName (codes "tg")
unfolding lexing
tg_is_name = refl

ft_is_name : IsName (codes "ft")
unfolding lexing
ft_is_name = refl

ff_is_name : IsName (codes "ff")
unfolding lexing
ff_is_name = refl

fg_is_name : IsName (codes "fg")
unfolding lexing
fg_is_name = refl

gg_is_name : IsName (codes "gg")
unfolding lexing
gg_is_name = refl

module _ (Can : Lexeme → Type 0) (holds : HoldsOfWritten Can) where
  word : (text : List ℕ) → list_any (bytes_eq text) terminals ≡ true → Can (terminal text)
  word = holds.of_terminal

  one : (text : List ℕ) → list_any (bytes_eq text) terminals ≡ true → Each Can (terminal text ∷ [])
  one text e = (word text e, tt)

  -- two lists of lexemes
  beside : (front rest : List Lexeme) → Each Can front → Each Can rest → Each Can (front ++ rest)
  beside = each_append Can

  in_round : (left sign right : List Lexeme) → Each Can left → Each Can sign → Each Can right
      → Each Can (bracketed left sign right)
  in_round left sign right h k l = (
    word (codes "(") refl,
    beside left _ h (beside sign _ k (beside right _ l (one (codes ")") refl))),
  )

  -- ---- terms

  pub name_holds : (x : ProgVar) → IsWritableName x → Each Can (name_lexemes x)
  name_holds (named name s) h = (holds.of_name name h, tt)

  pub logic_holds : (x : Var) → IsLogic x → Each Can (var_lexemes x)
  logic_holds (logic name s) h = (holds.of_logic name h, tt)
  logic_holds (prog name s) h = absurd h
  logic_holds (bound i s) h = absurd h

  braces_hold : (sign : List ℕ) → list_any (bytes_eq sign) terminals ≡ true
      → (left right : List Lexeme) → Each Can left → Each Can right
      → Each Can (the "{" ⌢ left ⌢ (terminal sign ∷ []) ⌢ right ⌢ the "}")
  braces_hold sign e left right h k = (
    word (codes "{") refl,
    beside left _ h (
      word sign e,
      beside right _ k (one (codes "}") refl),
    ),
  )

  pub term_holds : (place : Place) (a : Term) → IsWritableTerm place a → Each Can (term_lexemes a)
  term_holds place (literal null) h = one (codes "null") refl
  term_holds place (literal nolist) h = one (codes "nolist") refl
  term_holds place (literal (node_number n)) h = absurd h
  term_holds place (literal (list_number n)) h = absurd h
  term_holds place (literal (int (pos n))) h = (holds.of_number n h, tt)
  term_holds place (literal (int (negsuc n))) h =
      (word (codes "-") refl, (holds.of_number (suc n) h, tt))
  term_holds place (literal (str text)) h = (holds.of_literal text, tt)
  term_holds place (literal (boolean true)) h = one (codes "yes") refl
  term_holds place (literal (boolean false)) h = one (codes "no") refl
  term_holds place (variable (prog name s)) h = (holds.of_name name h, tt)
  term_holds in_formula (variable (logic name s)) h = (holds.of_logic name h, tt)
  term_holds in_command (variable (logic name s)) h = absurd h
  term_holds place (variable (bound i s)) h = absurd h
  term_holds place (sum a b) h =
      braces_hold (codes "+") refl (term_lexemes a) (term_lexemes b) (term_holds place a h.0)
      (term_holds place b h.1)
  term_holds place (difference a b) h =
      braces_hold (codes "-") refl (term_lexemes a) (term_lexemes b) (term_holds place a h.0)
      (term_holds place b h.1)
  term_holds place (appended a b) h =
      braces_hold (codes "++") refl (term_lexemes a) (term_lexemes b) (term_holds place a h.0)
      (term_holds place b h.1)

  -- ---- formulas

  hole_holds : (k : DataSort) → Each Can (hole_sign k)
  hole_holds tree = one (codes "?t") refl
  hole_holds forest = one (codes "?f") refl
  hole_holds grove = one (codes "?g") refl

  at_holds : (k : DataSort) → Each Can (at_sign k)
  at_holds tree = one (codes "@t") refl
  at_holds forest = one (codes "@f") refl
  at_holds grove = one (codes "@g") refl

  into_holds : (k : DataSort) → Each Can (into_sign k)
  into_holds tree = one (codes "o-t") refl
  into_holds forest = one (codes "o-f") refl
  into_holds grove = one (codes "o-g") refl

  star_holds : (side : Side) → Each Can (star_sign side)
  star_holds whole = one (codes "*") refl
  star_holds hole_left = one (codes ".*") refl
  star_holds hole_right = one (codes "*.") refl

  binder_holds : (kind : List ℕ) → list_any (bytes_eq kind) terminals ≡ true → (x : Var)
      → IsLogic x → (inner : List Lexeme) → Each Can inner
      → Each Can (the "(" ⌢ (terminal kind ∷ []) ⌢ var_lexemes x ⌢ the "." ⌢ inner ⌢ the ")")
  binder_holds kind e x h inner k = (
    word (codes "(") refl,
    (
      word kind e,
      beside (var_lexemes x) _ (logic_holds x h)
          (word (codes ".") refl, beside inner _ k (one (codes ")") refl)),
    ),
  )

  logic_term_holds : (a : Term) → IsLogicTerm a → Each Can (term_lexemes a)
  logic_term_holds (variable x) h = logic_holds x h
  logic_term_holds a h = absurd h

  comparison_holds : (sign : List ℕ) → list_any (bytes_eq sign) terminals ≡ true → (place : Place)
      (a b : Term) → IsWritableTerm place a → IsWritableTerm place b
      → Each Can (term_lexemes a ⌢ (terminal sign ∷ []) ⌢ term_lexemes b)
  comparison_holds sign e place a b h k =
      beside (term_lexemes a) _ (term_holds place a h) (word sign e, term_holds place b k)

  pub formula_holds : (p : Named) → IsWritable p → Each Can (formula_lexemes p)
  formula_holds truth h = one (codes "true") refl
  formula_holds falsity h = one (codes "false") refl
  formula_holds (conjunction p q) h =
      in_round (formula_lexemes p) (the "and") (formula_lexemes q) (formula_holds p h.0)
      (one (codes "and") refl) (formula_holds q h.1)
  formula_holds (disjunction p q) h =
      in_round (formula_lexemes p) (the "or") (formula_lexemes q) (formula_holds p h.0)
      (one (codes "or") refl) (formula_holds q h.1)
  formula_holds (implication p q) h =
      in_round (formula_lexemes p) (the "->") (formula_lexemes q) (formula_holds p h.0)
      (one (codes "->") refl) (formula_holds q h.1)
  formula_holds (negation p) h = (
    word (codes "(") refl,
    (
      word (codes "not") refl,
      beside (formula_lexemes p) _ (formula_holds p h) (one (codes ")") refl),
    ),
  )
  formula_holds (existential x p) h =
      binder_holds (codes "exists") refl x h.0 _ (formula_holds p h.1)
  formula_holds (universal x p) h =
      binder_holds (codes "forall") refl x h.0 _ (formula_holds p h.1)
  formula_holds (equality a b) h = comparison_holds (codes "=") refl in_formula a b h.0 h.1
  formula_holds (at_most a b) h = comparison_holds (codes "<=") refl in_formula a b h.0 h.1
  formula_holds (empty tree) h = absurd h
  formula_holds (empty forest) h = one (codes "0f") refl
  formula_holds (empty grove) h = one (codes "0g") refl
  formula_holds (bare_hole k) h = hole_holds k
  formula_holds (node_formula a b p c) h =
      beside (term_lexemes a) _ (term_holds in_formula a h.0) (
        word (codes "#") refl,
        beside (term_lexemes b) _ (term_holds in_formula b h.1) (
          word (codes "[") refl,
          beside (formula_lexemes p) _ (formula_holds p h.2)
              (word (codes "]") refl, (word (codes "%") refl, term_holds in_formula c h.3)),
        ),
      )
  formula_holds (one_tree p) h = (
    word (codes "<") refl,
    beside (formula_lexemes p) _ (formula_holds p h) (one (codes ">") refl),
  )
  formula_holds (one_root p) h = (
    word (codes "[") refl,
    beside (formula_lexemes p) _ (formula_holds p h) (one (codes "]") refl),
  )
  formula_holds (concatenation side p q) h =
      in_round (formula_lexemes p) (star_sign side) (formula_lexemes q) (formula_holds p h.0)
      (star_holds side) (formula_holds q h.1)
  formula_holds (grove_sum p q) h =
      in_round (formula_lexemes p) (the "+") (formula_lexemes q) (formula_holds p h.0)
      (one (codes "+") refl) (formula_holds q h.1)
  formula_holds (grove_sum_hole p q) h =
      in_round (formula_lexemes p) (the ".+") (formula_lexemes q) (formula_holds p h.0)
      (one (codes ".+") refl) (formula_holds q h.1)
  formula_holds (application k p q) h =
      in_round (formula_lexemes p) (at_sign k) (formula_lexemes q) (formula_holds p h.0)
      (at_holds k) (formula_holds q h.1)
  formula_holds (hole_adjoint p q) h =
      in_round (formula_lexemes p) (the "-o") (formula_lexemes q) (formula_holds p h.0)
      (one (codes "-o") refl) (formula_holds q h.1)
  formula_holds (context_adjoint k p q) h =
      in_round (formula_lexemes p) (into_sign k) (formula_lexemes q) (formula_holds p h.0)
      (into_holds k) (formula_holds q h.1)
  formula_holds (same_as a) h = logic_term_holds a h
  formula_holds (length_is a) h = (word (codes "len") refl, term_holds in_formula a h)
  formula_holds (value_meets s a p) h =
      in_round (term_lexemes a) (the "is") (formula_lexemes p) (logic_term_holds a h.0)
      (one (codes "is") refl) (formula_holds p h.1)

  -- ---- conditions

  condition_holds : (d : Cond) → IsWritableCondition d → Each Can (cond_lexemes d)
  condition_holds cond_true h = one (codes "true") refl
  condition_holds cond_false h = one (codes "false") refl
  condition_holds (cond_variable x) h = name_holds x h
  condition_holds (cond_equal a b) h = comparison_holds (codes "=") refl in_command a b h.0 h.1
  condition_holds (cond_at_most a b) h = comparison_holds (codes "<=") refl in_command a b h.0 h.1
  condition_holds (cond_not d) h = (
    word (codes "(") refl,
    (
      word (codes "not") refl,
      beside (cond_lexemes d) _ (condition_holds d h) (one (codes ")") refl),
    ),
  )
  condition_holds (cond_and d e) h =
      in_round (cond_lexemes d) (the "and") (cond_lexemes e) (condition_holds d h.0)
      (one (codes "and") refl) (condition_holds e h.1)
  condition_holds (cond_or d e) h =
      in_round (cond_lexemes d) (the "or") (cond_lexemes e) (condition_holds d h.0)
      (one (codes "or") refl) (condition_holds e h.1)

  -- ---- words for sorts

  pub value_sort_holds : (s : ValueSort) → Each Can (value_sort_lexemes s)
  value_sort_holds node_sort = (holds.of_name (codes "node") node_is_name, tt)
  value_sort_holds list_sort = (holds.of_name (codes "list") list_is_name, tt)
  value_sort_holds int_sort = (holds.of_name (codes "int") int_is_name, tt)
  value_sort_holds str_sort = (holds.of_name (codes "str") str_is_name, tt)
  value_sort_holds bool_sort = (holds.of_name (codes "bool") bool_is_name, tt)

  pub data_sort_holds : (k : DataSort) → Each Can (data_sort_lexemes k)
  data_sort_holds tree = (holds.of_name (codes "t") t_is_name, tt)
  data_sort_holds forest = (holds.of_name (codes "f") f_is_name, tt)
  data_sort_holds grove = (holds.of_name (codes "g") g_is_name, tt)

  pub sort_holds : (s : Sort) → Each Can (sort_lexemes s)
  sort_holds (value s) = value_sort_holds s
  sort_holds (shape k) = data_sort_holds k
  sort_holds (context tree tree) = (holds.of_name (codes "tt") tt_is_name, tt)
  sort_holds (context tree forest) = (holds.of_name (codes "tf") tf_is_name, tt)
  sort_holds (context tree grove) = (holds.of_name (codes "tg") tg_is_name, tt)
  sort_holds (context forest tree) = (holds.of_name (codes "ft") ft_is_name, tt)
  sort_holds (context forest forest) = (holds.of_name (codes "ff") ff_is_name, tt)
  sort_holds (context forest grove) = (holds.of_name (codes "fg") fg_is_name, tt)
  sort_holds (context grove tree) = tt
  sort_holds (context grove forest) = tt
  sort_holds (context grove grove) = (holds.of_name (codes "gg") gg_is_name, tt)

  -- ---- lists

  module _ {A : Type 0} (Good : A → Type 0) (lexemes : A → List Lexeme)
      (holds_of : (x : A) → Good x → Each Can (lexemes x)) where
    further_hold : (xs : List A) → Each Good xs → Each Can (behind_commas (map lexemes xs))
    further_hold [] h = tt
    further_hold (x ∷ xs) h =
        (word (codes ",") refl, beside (lexemes x) _ (holds_of x h.0) (further_hold xs h.1))

    list_holds : (xs : List A) → Each Good xs → Each Can (listed (map lexemes xs))
    list_holds [] h = tt
    list_holds (x ∷ xs) h = beside (lexemes x) _ (holds_of x h.0) (further_hold xs h.1)

    pub brackets_hold : (xs : List A) → Each Good xs → Each Can (in_brackets (map lexemes xs))
    brackets_hold xs h = (
      word (codes "(") refl,
      beside (listed (map lexemes xs)) _ (list_holds xs h) (one (codes ")") refl),
    )

  -- ---- commands

  terms_hold : (place : Place) (es : List Term) → Each (IsWritableTerm place) es
      → Each Can (in_brackets (map term_lexemes es))
  terms_hold place = brackets_hold (IsWritableTerm place) term_lexemes (term_holds place)

  set_holds : (x : ProgVar) → IsWritableName x → (right : List Lexeme) → Each Can right
      → Each Can (name_lexemes x ⌢ the ":=" ⌢ right)
  set_holds x h right k = beside (name_lexemes x) _ (name_holds x h) (word (codes ":=") refl, k)

  query_holds : (query : List ℕ) → list_any (bytes_eq query) terminals ≡ true → (x : ProgVar)
      (a : Term) → IsWritableName x → IsWritableTerm in_command a
      → Each Can (name_lexemes x ⌢ the ":=" ⌢ (terminal query ∷ [])
      ⌢ in_brackets (term_lexemes a ∷ []))
  query_holds query e x a h k =
      set_holds x h _ (word query e, terms_hold in_command (a ∷ []) (k, tt))

  two_hold : (a b : Term) → IsWritableTerm in_command a → IsWritableTerm in_command b
      → Each Can (in_brackets (term_lexemes a ∷ term_lexemes b ∷ []))
  two_hold a b h k = terms_hold in_command (a ∷ b ∷ []) (h, (k, tt))

  mutual
    pub command_holds : Can (terminal insert_word) → (d : Command) → IsWritableCommand d
        → Each Can (command_lexemes d)
    command_holds inserts skip h = one (codes "skip") refl
    command_holds inserts (block b) h = block_holds inserts b h
    command_holds inserts (assign x a) h = set_holds x h.0 _ (term_holds in_command a h.1)
    command_holds inserts (create_node x a) h = query_holds (codes "createNode") refl x a h.0 h.1
    command_holds inserts (node_name x a) h = query_holds (codes "nodeName") refl x a h.0 h.1
    command_holds inserts (child_nodes x a) h = query_holds (codes "childNodes") refl x a h.0 h.1
    command_holds inserts (parent_node x a) h = query_holds (codes "parentNode") refl x a h.0 h.1
    command_holds inserts (list_item x a b) h =
        set_holds x h.0 _ (word (codes "item") refl, two_hold a b h.1 h.2)
    command_holds inserts (append_child a b) h =
        (word (codes "appendChild") refl, two_hold a b h.0 h.1)
    command_holds inserts (remove_child a b) h =
        (word (codes "removeChild") refl, two_hold a b h.0 h.1)
    command_holds inserts (insert_before a b d) h =
        (inserts, terms_hold in_command (a ∷ b ∷ d ∷ []) (h.0, (h.1, (h.2, tt))))
    command_holds inserts (if_else d a b) h = (
      word (codes "if") refl,
      beside (cond_lexemes d) _ (condition_holds d h.0)
          (beside (block_lexemes a) _ (block_holds inserts a h.1)
          (word (codes "else") refl, block_holds inserts b h.2)),
    )
    command_holds inserts (while_do d b) h = (
      word (codes "while") refl,
      beside (cond_lexemes d) _ (condition_holds d h.0) (block_holds inserts b h.1),
    )
    command_holds inserts (local (named name s) b) h = (
      word (codes "local") refl,
      (
        holds.of_name name h.0,
        (
          word (codes ":") refl,
          beside (value_sort_lexemes s) _ (value_sort_holds s) (block_holds inserts b h.1),
        ),
      ),
    )
    command_holds inserts (call xs name es) h = (
      word (codes "call") refl,
      beside (in_brackets (map name_lexemes xs)) _
          (brackets_hold IsWritableName name_lexemes name_holds xs h.0)
          (word (codes ":=") refl, (holds.of_name name h.1, terms_hold in_command es h.2)),
    )

    block_holds : Can (terminal insert_word) → (b : Block) → IsWritableBlock b
        → Each Can (block_lexemes b)
    block_holds inserts stop h = absurd h
    block_holds inserts (d then b) h = (
      word (codes "{") refl,
      beside (command_lexemes d) _ (command_holds inserts d h.0)
          (beside (further_commands b) _ (commands_hold inserts b h.1) (one (codes "}") refl)),
    )

    commands_hold : Can (terminal insert_word) → (b : Block) → AreWritable b
        → Each Can (further_commands b)
    commands_hold inserts stop h = tt
    commands_hold inserts (d then b) h = (
      word (codes ";") refl,
      beside (command_lexemes d) _ (command_holds inserts d h.0) (commands_hold inserts b h.1),
    )

  -- ---- parts of theories

  pub number_holds : (n : ℕ) → IsNumeral n → Each Can (number_lexemes n)
  number_holds n h = (holds.of_number n (omega arith), tt)

  declaration_holds : (x : ProgVar) → IsWritableName x → Each Can (declaration_lexemes x)
  declaration_holds (named name s) h =
      (holds.of_name name h, (word (codes ":") refl, value_sort_holds s))

  pub arguments_hold : (es : List Term) → Each (IsWritableTerm in_formula) es
      → Each Can (argument_lexemes es)
  arguments_hold [] h = tt
  arguments_hold (a ∷ es) h = (word (codes "with") refl, terms_hold in_formula (a ∷ es) h)

  pub judgement_holds : Can (terminal insert_word) → (w : JudgementOf Named) → IsWritableJudgement w
      → Each Can (judgement_lexemes w)
  judgement_holds inserts (entails p q s) h =
      beside (formula_lexemes p) _ (formula_holds p h.0) (
        word (codes "entails") refl,
        beside (formula_lexemes q) _ (formula_holds q h.1) (word (codes "at") refl, sort_holds s),
      )
  judgement_holds inserts (triple p d q k) h = (
    word (codes "pre") refl,
    beside (formula_lexemes p) _ (formula_holds p h.0) (
      word (codes "do") refl,
      beside (command_lexemes d) _ (command_holds inserts d h.1) (
        word (codes "post") refl,
        beside (formula_lexemes q) _ (formula_holds q h.2)
            (word (codes "at") refl, data_sort_holds k),
      ),
    ),
  )

  declarations_hold : (xs : List ProgVar) → Each IsWritableName xs
      → Each Can (in_brackets (map declaration_lexemes xs))
  declarations_hold = brackets_hold IsWritableName declaration_lexemes declaration_holds

  first_holds : (f : ProcedureOf Named) → IsWritableProcedure f
      → Each Can (the "proc" ⌢ name_lexeme f.name ∷ []
      ⌢ in_brackets (map declaration_lexemes f.params) ⌢ the "returns"
      ⌢ in_brackets (map declaration_lexemes f.results) ⌢ the "sort" ⌢ data_sort_lexemes f.sort)
  first_holds f h = (
    word (codes "proc") refl,
    (
      holds.of_name f.name h.name,
      beside (in_brackets (map declaration_lexemes f.params)) _
          (declarations_hold f.params h.params) (
            word (codes "returns") refl,
            beside (in_brackets (map declaration_lexemes f.results)) _
                (declarations_hold f.results h.results)
                (word (codes "sort") refl, data_sort_holds f.sort),
          ),
    ),
  )

  pub header_holds : Can (terminal insert_word) → (f : ProcedureOf Named) → IsWritableProcedure f
      → Each (Each Can) (header_lines f)
  header_holds inserts f h = (
    first_holds f h,
    (
      (word (codes "requires") refl, formula_holds f.pre h.pre),
      (
        (word (codes "ensures") refl, formula_holds f.post h.post),
        (
          (word (codes "body") refl, command_holds inserts f.body h.body),
          (one (codes "proof") refl, tt),
        ),
      ),
    ),
  )

  pub end_holds : Each Can (the "end")
  end_holds = one (codes "end") refl

  logic_line_holds : (x : Var) → IsDeclarable x → Each Can (logic_line x)
  logic_line_holds x h = (
    word (codes "logic") refl,
    beside (sort_lexemes (var_sort x)) _ (sort_holds (var_sort x))
        (beside (var_lexemes x) _ (logic_holds x h.0) (one (codes ";") refl)),
  )

  pub logic_lines_hold : (xs : List Var) → Each IsDeclarable xs
      → Each (Each Can) (map logic_line xs)
  logic_lines_hold [] h = tt
  logic_lines_hold (x ∷ xs) h = (logic_line_holds x h.0, logic_lines_hold xs h.1)

  pub version_holds : (n : ℕ) → IsNumeral n → Each Can (the "domlogic" ⌢ number_lexemes n)
  version_holds n h = (word (codes "domlogic") refl, number_holds n h)

  -- the lexemes of lines
  pub all_hold : (lines : List (List Lexeme)) → Each (Each Can) lines
      → Each Can (all_lexemes lines)
  all_hold [] h = tt
  all_hold (line ∷ lines) h = beside line _ h.0 (all_hold lines h.1)
