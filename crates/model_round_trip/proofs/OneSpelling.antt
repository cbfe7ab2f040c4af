-- What spells a formula or a command are the lexemes that are written for it, and no others.
use Rattle.std.proofs.Common.{ℕ, List, [], ◌∷◌, ◌≡◌, refl, sym, ◌∙◌, map, append_assoc, append-nil}
use Rattle.model_shapes.specs.Sorts.{ValueSort, DataSort, Sort}
use Rattle.model_terms.specs.Terms.{Term}
use Rattle.model_terms.specs.Variables.{Var}
use Rattle.model_terms.specs.Stores.{ProgVar}
use Rattle.model_terms.specs.Conditions.{Cond}
use Rattle.model_formulas.specs.Formulas.{Named}
use Rattle.model_commands.specs.Commands.{Command, Block}
use Rattle.model_commands.specs.Theories.{JudgementOf}
use Rattle.model_text.specs.Lexemes.{Lexeme, name_lexeme, logic_lexeme}
use Rattle.model_grammar.specs.Words.{the, ◌⌢◌}
use Rattle.model_grammar.specs.Terms as t
use Rattle.model_grammar.specs.Terms.{Place, in_command, used_logic, SpellsName, a_name, SpellsLogicName, a_logic_name, SpellsValueSort, SpellsDataSort, SpellsShapeSort, SpellsSort, in_formula, SpellsTerm}
use Rattle.model_grammar.specs.Formulas as g
use Rattle.model_grammar.specs.Formulas.{SpellsFormula}
use Rattle.model_grammar.specs.Commands as c
use Rattle.model_grammar.specs.Commands.{Listed, Bracketed, SpellsVariable, SpellsCondition, SpellsCommand, SpellsBlock, SpellsCommands}
use Rattle.model_grammar.specs.Theories as files
use Rattle.model_grammar.specs.Theories.{SpellsNumber, SpellsDeclaration, SpellsArguments, SpellsJudgement}
use Rattle.model_grammar.specs.Writing.{name_lexemes, term_lexemes, braced, bracketed, cond_lexemes, value_sort_lexemes, behind_commas, listed, in_brackets, command_lexemes, block_lexemes, further_commands}
use Rattle.model_grammar.specs.TheoryWriting.{data_sort_lexemes, sort_lexemes, declaration_lexemes, number_lexemes, argument_lexemes, judgement_lexemes, quantified, formula_lexemes}

-- ---- terms

constant_written : {a : Term} {s : List Lexeme} → t.SpellsConstant a s → term_lexemes a ≡ s
constant_written t.null_word = refl
constant_written t.nolist_word = refl
constant_written t.yes_word = refl
constant_written t.no_word = refl

operation_written : {f : Term → Term → Term} {sign : List Lexeme} → t.SpellsOperator f sign
    → (a b : Term) → term_lexemes (f a b) ≡ braced (term_lexemes a) sign (term_lexemes b)
operation_written t.plus_sign a b = refl
operation_written t.minus_sign a b = refl
operation_written t.append_sign a b = refl

pub term_written : {place : Place} {a : Term} {s : List Lexeme} → SpellsTerm place a s
    → term_lexemes a ≡ s
term_written (t.program_variable name) = refl
term_written (t.logic_variable name) = refl
term_written (t.text_literal text) = refl
term_written (t.number_literal n h) = refl
term_written (t.negative_literal n h) = refl
term_written (t.constant l) = constant_written l
term_written (t.operation {a = a} {b = b} {sign = sign} l lo m) =
    operation_written lo a b ∙ (λ j. braced (term_written l j) sign (term_written m j))

-- ---- formulas

word_written : {p : Named} {s : List Lexeme} → g.SpellsWord p s → formula_lexemes p ≡ s
word_written g.true_word = refl
word_written g.false_word = refl
word_written g.empty_forest = refl
word_written g.empty_grove = refl
word_written g.tree_hole = refl
word_written g.forest_hole = refl
word_written g.grove_hole = refl

comparison_written : {f : Term → Term → Named} {sign : List Lexeme} → g.SpellsComparison f sign
    → (a b : Term) → formula_lexemes (f a b) ≡ term_lexemes a ⌢ sign ⌢ term_lexemes b
comparison_written g.equal_sign a b = refl
comparison_written g.at_most_sign a b = refl

logic_written : {name : List ℕ} {s : List Lexeme} → SpellsLogicName name s
    → logic_lexeme name ∷ [] ≡ s
logic_written (a_logic_name name) = refl

quantifier_written : {f : Var → Named → Named} {kind : List Lexeme} → g.SpellsQuantifier f kind
    → (name : List ℕ) (p : Named) → formula_lexemes (f (used_logic name) p)
    ≡ quantified kind (logic_lexeme name ∷ []) (formula_lexemes p)
quantifier_written g.exists_word name p = refl
quantifier_written g.forall_word name p = refl

connective_written : {f : Named → Named → Named} {sign : List Lexeme} → g.SpellsConnective f sign
    → (p q : Named) → formula_lexemes (f p q)
    ≡ bracketed (formula_lexemes p) sign (formula_lexemes q)
connective_written g.and_word p q = refl
connective_written g.or_word p q = refl
connective_written g.arrow p q = refl
connective_written g.star p q = refl
connective_written g.left_star p q = refl
connective_written g.right_star p q = refl
connective_written g.plus p q = refl
connective_written g.left_plus p q = refl
connective_written g.at_tree p q = refl
connective_written g.at_forest p q = refl
connective_written g.at_grove p q = refl
connective_written g.lollipop p q = refl
connective_written g.into_tree p q = refl
connective_written g.into_forest p q = refl
connective_written g.into_grove p q = refl

pub formula_written : {p : Named} {s : List Lexeme} → SpellsFormula p s → formula_lexemes p ≡ s
formula_written (g.a_word l) = word_written l
formula_written (g.shape_variable l) = logic_written l
formula_written (g.comparison {a = a} {b = b} {sign = sign} l lo m) =
    comparison_written lo a b ∙ (λ j. term_written l j ⌢ sign ⌢ term_written m j)
formula_written (g.node l m lp k) =
    λ j. term_written l j ⌢ the "#" ⌢ term_written m j ⌢ the "[" ⌢ formula_written lp j ⌢ the "]"
    ⌢ the "%" ⌢ term_written k j
formula_written (g.length l) = λ j. the "len" ⌢ term_written l j
formula_written (g.a_tree lp) = λ j. the "<" ⌢ formula_written lp j ⌢ the ">"
formula_written (g.a_root lp) = λ j. the "[" ⌢ formula_written lp j ⌢ the "]"
formula_written (g.not lp) = λ j. the "(" ⌢ the "not" ⌢ formula_written lp j ⌢ the ")"
formula_written (g.quantified {name = name} {p = p} {kind = kind} lk l lp) =
    quantifier_written lk name p
    ∙ (λ j. quantified kind (logic_written l j) (formula_written lp j))
formula_written (g.is l lp) =
    λ j. bracketed (logic_written l j) (the "is") (formula_written lp j)
formula_written (g.joined {p = p} {q = q} {sign = sign} lp lo lq) =
    connective_written lo p q
    ∙ (λ j. bracketed (formula_written lp j) sign (formula_written lq j))

-- ---- conditions

name_written : {name : List ℕ} {s : List Lexeme} → SpellsName name s → name_lexeme name ∷ [] ≡ s
name_written (a_name name) = refl

variable_written : {x : ProgVar} {s : List Lexeme} → SpellsVariable x s → name_lexemes x ≡ s
variable_written (c.a_variable l) = name_written l

cond_comparison_written : {f : Term → Term → Cond} {sign : List Lexeme}
    → c.SpellsComparison f sign → (a b : Term)
    → cond_lexemes (f a b) ≡ term_lexemes a ⌢ sign ⌢ term_lexemes b
cond_comparison_written c.equal_sign a b = refl
cond_comparison_written c.at_most_sign a b = refl

cond_connective_written : {f : Cond → Cond → Cond} {sign : List Lexeme}
    → c.SpellsConnective f sign → (d e : Cond)
    → cond_lexemes (f d e) ≡ bracketed (cond_lexemes d) sign (cond_lexemes e)
cond_connective_written c.and_word d e = refl
cond_connective_written c.or_word d e = refl

condition_written : {d : Cond} {s : List Lexeme} → SpellsCondition d s → cond_lexemes d ≡ s
condition_written c.true_word = refl
condition_written c.false_word = refl
condition_written (c.bool_variable l) = variable_written l
condition_written (c.comparison {a = a} {b = b} {sign = sign} l lo m) =
    cond_comparison_written lo a b ∙ (λ j. term_written l j ⌢ sign ⌢ term_written m j)
condition_written (c.not l) = λ j. the "(" ⌢ the "not" ⌢ condition_written l j ⌢ the ")"
condition_written (c.joined {c = d} {d = e} {sign = sign} l lo m) =
    cond_connective_written lo d e
    ∙ (λ j. bracketed (condition_written l j) sign (condition_written m j))

-- ---- lists

module _ {A : Type 0} (Spells : A → List Lexeme → Type 0) (lexemes : A → List Lexeme)
    (written : (x : A) (s : List Lexeme) → Spells x s → lexemes x ≡ s) where
  behind_comma : {xs : List A} {s : List Lexeme} → Listed Spells xs s
      → behind_commas (map lexemes xs) ≡ the "," ⌢ listed (map lexemes xs)
  behind_comma (c.last_item l) = refl
  behind_comma (c.more_items l ls) = refl

  pub list_written : {xs : List A} {s : List Lexeme} → Listed Spells xs s
      → listed (map lexemes xs) ≡ s
  list_written (c.last_item {x = x} {item = item} l) =
      append-nil (lexemes x) ∙ written x item l
  list_written (c.more_items {x = x} {item = item} l ls) =
      λ j. written x item l j ⌢ ((behind_comma ls ∙ (λ i. the "," ⌢ list_written ls i)) j)

  pub brackets_written : {xs : List A} {s : List Lexeme} → Bracketed Spells xs s
      → in_brackets (map lexemes xs) ≡ s
  brackets_written c.no_item = refl
  brackets_written (c.some_items ls) = λ j. the "(" ⌢ list_written ls j ⌢ the ")"

-- ---- commands

value_sort_written : {k : ValueSort} {s : List Lexeme} → SpellsValueSort k s
    → value_sort_lexemes k ≡ s
value_sort_written t.node_word = refl
value_sort_written t.list_word = refl
value_sort_written t.int_word = refl
value_sort_written t.str_word = refl
value_sort_written t.bool_word = refl

two_parts : (a b : List Lexeme) → (a ⌢ the "," ⌢ b ⌢ []) ⌢ the ")" ≡ a ⌢ the "," ⌢ b ⌢ the ")"
two_parts a b = simp (append_assoc, append-nil) refl

three_parts : (a b d : List Lexeme) → (a ⌢ the "," ⌢ b ⌢ the "," ⌢ d ⌢ []) ⌢ the ")"
    ≡ a ⌢ the "," ⌢ b ⌢ the "," ⌢ d ⌢ the ")"
three_parts a b d = simp (append_assoc, append-nil) refl

query_written : {query : ProgVar → Term → Command} {word : List Lexeme}
    → c.SpellsQuery query word → (x : ProgVar) (a : Term) → command_lexemes (query x a)
    ≡ name_lexemes x ⌢ the ":=" ⌢ word ⌢ the "(" ⌢ term_lexemes a ⌢ the ")"
query_written c.create_word x a = simp append-nil refl
query_written c.name_word x a = simp append-nil refl
query_written c.parent_word x a = simp append-nil refl
query_written c.children_word x a = simp append-nil refl

change_written : {change : Term → Term → Command} {word : List Lexeme}
    → c.SpellsChange change word → (a b : Term) → command_lexemes (change a b)
    ≡ word ⌢ the "(" ⌢ term_lexemes a ⌢ the "," ⌢ term_lexemes b ⌢ the ")"
change_written c.append_word a b =
    λ j. the "appendChild" ⌢ the "(" ⌢ two_parts (term_lexemes a) (term_lexemes b) j
change_written c.remove_word a b =
    λ j. the "removeChild" ⌢ the "(" ⌢ two_parts (term_lexemes a) (term_lexemes b) j

setting_written : {x : ProgVar} {d : Command} {s : List Lexeme} → c.SpellsSetting x d s
    → command_lexemes d ≡ name_lexemes x ⌢ the ":=" ⌢ s
setting_written {x} (c.to_value l) = λ j. name_lexemes x ⌢ the ":=" ⌢ term_written l j
setting_written {x} (c.to_answer {a = a} {word = word} lw l) =
    query_written lw x a
    ∙ (λ j. name_lexemes x ⌢ the ":=" ⌢ word ⌢ the "(" ⌢ term_written l j ⌢ the ")")
setting_written {x} (c.to_item {a = a} {b = b} l m) =
    (λ j. name_lexemes x ⌢ the ":=" ⌢ the "item" ⌢ the "("
    ⌢ two_parts (term_lexemes a) (term_lexemes b) j)
    ∙ (λ j. name_lexemes x ⌢ the ":=" ⌢ the "item" ⌢ the "(" ⌢ term_written l j ⌢ the ","
    ⌢ term_written m j ⌢ the ")")

variables_written : {xs : List ProgVar} {s : List Lexeme} → Bracketed SpellsVariable xs s
    → in_brackets (map name_lexemes xs) ≡ s
variables_written = brackets_written SpellsVariable name_lexemes (λ x s l. variable_written l)

terms_written : {es : List Term} {s : List Lexeme} → Bracketed (SpellsTerm in_command) es s
    → in_brackets (map term_lexemes es) ≡ s
terms_written = brackets_written (SpellsTerm in_command) term_lexemes (λ a s l. term_written l)

mutual
  pub command_written : {d : Command} {s : List Lexeme} → SpellsCommand d s
      → command_lexemes d ≡ s
  command_written c.skip_word = refl
  command_written (c.braces l) = block_written l
  command_written (c.choice l m n) =
      λ j. the "if" ⌢ condition_written l j ⌢ block_written m j ⌢ the "else" ⌢ block_written n j
  command_written (c.loop l m) = λ j. the "while" ⌢ condition_written l j ⌢ block_written m j
  command_written (c.with_local l m n) =
      λ j. the "local" ⌢ name_written l j ⌢ the ":" ⌢ value_sort_written m j ⌢ block_written n j
  command_written (c.a_call l m n) =
      λ j. the "call" ⌢ variables_written l j ⌢ the ":=" ⌢ name_written m j ⌢ terms_written n j
  command_written (c.change {a = a} {b = b} {word = word} lw l m) =
      change_written lw a b
      ∙ (λ j. word ⌢ the "(" ⌢ term_written l j ⌢ the "," ⌢ term_written m j ⌢ the ")")
  command_written (c.insertion {a = a} {b = b} {c = d} l m n) =
      (λ j. the "insertBefore" ⌢ the "("
      ⌢ three_parts (term_lexemes a) (term_lexemes b) (term_lexemes d) j)
      ∙ (λ j. the "insertBefore" ⌢ the "(" ⌢ term_written l j ⌢ the "," ⌢ term_written m j
      ⌢ the "," ⌢ term_written n j ⌢ the ")")
  command_written (c.setting {right = right} l m) =
      setting_written m ∙ (λ j. variable_written l j ⌢ the ":=" ⌢ right)

  block_written : {b : Block} {s : List Lexeme} → SpellsBlock b s → block_lexemes b ≡ s
  block_written (c.in_braces (c.last_command l)) = λ j. the "{" ⌢ command_written l j ⌢ the "}"
  block_written (c.in_braces (c.more_commands {first = first} {others = others} l ls)) =
      (λ j. the "{" ⌢ command_written l j ⌢ further_written ls j ⌢ the "}")
      ∙ (λ j. the "{" ⌢ sym (append_assoc first (the ";" ⌢ others) (the "}")) j)

  further_written : {b : Block} {s : List Lexeme} → SpellsCommands b s
      → further_commands b ≡ the ";" ⌢ s
  further_written (c.last_command {c = d} l) =
      λ j. the ";" ⌢ (append-nil (command_lexemes d) ∙ command_written l) j
  further_written (c.more_commands l ls) =
      λ j. the ";" ⌢ command_written l j ⌢ further_written ls j

-- ---- parts of theories

pub data_sort_written : {k : DataSort} {s : List Lexeme} → SpellsDataSort k s
    → data_sort_lexemes k ≡ s
data_sort_written t.tree_word = refl
data_sort_written t.forest_word = refl
data_sort_written t.grove_word = refl

shape_sort_written : {k : Sort} {s : List Lexeme} → SpellsShapeSort k s → sort_lexemes k ≡ s
shape_sort_written (t.data_sort l) = data_sort_written l
shape_sort_written t.tree_in_tree = refl
shape_sort_written t.tree_in_forest = refl
shape_sort_written t.tree_in_grove = refl
shape_sort_written t.forest_in_tree = refl
shape_sort_written t.forest_in_forest = refl
shape_sort_written t.forest_in_grove = refl
shape_sort_written t.grove_in_grove = refl

pub sort_written : {k : Sort} {s : List Lexeme} → SpellsSort k s → sort_lexemes k ≡ s
sort_written (t.value_sort_word l) = value_sort_written l
sort_written (t.shape_sort_word l) = shape_sort_written l

declaration_written : {x : ProgVar} {s : List Lexeme} → SpellsDeclaration x s
    → declaration_lexemes x ≡ s
declaration_written (files.declaration l m) =
    λ j. name_written l j ⌢ the ":" ⌢ value_sort_written m j

pub declarations_written : {xs : List ProgVar} {s : List Lexeme} → Bracketed SpellsDeclaration xs s
    → in_brackets (map declaration_lexemes xs) ≡ s
declarations_written =
    brackets_written SpellsDeclaration declaration_lexemes (λ x s l. declaration_written l)

number_written : {n : ℕ} {s : List Lexeme} → SpellsNumber n s → number_lexemes n ≡ s
number_written (files.small_number n h) = refl

pub numbers_written : {ns : List ℕ} {s : List Lexeme} → Bracketed SpellsNumber ns s
    → in_brackets (map number_lexemes ns) ≡ s
numbers_written = brackets_written SpellsNumber number_lexemes (λ n s l. number_written l)

pub arguments_written : {es : List Term} {s : List Lexeme} → SpellsArguments es s
    → argument_lexemes es ≡ s
arguments_written files.no_argument = refl
arguments_written (files.some_arguments ls) =
    some_written ls ∙ (λ j. the "with" ⌢ the "("
    ⌢ list_written (SpellsTerm in_formula) term_lexemes (λ a s l. term_written l) ls j ⌢ the ")")
  where
    some_written : {es : List Term} {s : List Lexeme} → Listed (SpellsTerm in_formula) es s
        → argument_lexemes es ≡ the "with" ⌢ in_brackets (map term_lexemes es)
    some_written (c.last_item l) = refl
    some_written (c.more_items l ls) = refl

pub judgement_written : {w : JudgementOf Named} {s : List Lexeme} → SpellsJudgement w s
    → judgement_lexemes w ≡ s
judgement_written (files.entailment l m n) =
    λ j. formula_written l j ⌢ the "entails" ⌢ formula_written m j ⌢ the "at"
    ⌢ shape_sort_written n j
judgement_written (files.a_triple l m n k) =
    λ j. the "pre" ⌢ formula_written l j ⌢ the "do" ⌢ command_written m j ⌢ the "post"
    ⌢ formula_written n j ⌢ the "at" ⌢ data_sort_written k j
