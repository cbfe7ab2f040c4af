-- No lexeme of a spelled theory is a bad one, and none of a spelled grove.
use Rattle.std.proofs.Common.{◌≡◌, ℕ, Bool, true, false, cond, ◌==◌, ◌||◌, List, [], ◌∷◌, Some, refl, sym, ap, ◌∙◌, map, bytes_eq}
use Rattle.std.specs.List.{list_any, slice_get}
use Rattle.std.proofs.lemmas.List.Folds.{list_any-append, list_any_at}
use Rattle.std.proofs.lemmas.Option.{slice_get_within, get_or_from_slice_get}
use Rattle.model_shapes.specs.Sorts.{ValueSort, DataSort, Sort}
use Rattle.model_shapes.specs.Trees.{Trees}
use Rattle.model_terms.specs.Variables.{Var}
use Rattle.model_terms.specs.Terms.{Term}
use Rattle.model_terms.specs.Stores.{ProgVar}
use Rattle.model_terms.specs.Conditions.{Cond}
use Rattle.model_formulas.specs.Formulas.{Named}
use Rattle.model_commands.specs.Commands.{Command, Block}
use Rattle.model_commands.specs.Theories.{JudgementOf, Reason, StepOf, ProcedureOf, Theory}
use Rattle.model_text.specs.Lexemes.{Lexeme, terminal, step_word, name_lexeme, logic_lexeme, number_lexeme, literal_lexeme, bad_lexeme}
use Rattle.model_text.specs.Versions.{insert_word, reserving, seen_in, in_its_version}
use Rattle.model_documents.specs.Grammar as documents
use Rattle.model_documents.specs.Grammar.{SpellsTree, SpellsForest, SpellsTrees, SpellsRoots, SpellsGrove}
use Rattle.model_grammar.specs.Terms as t
use Rattle.model_grammar.specs.Terms.{Place, in_formula, in_command, SpellsName, SpellsLogicName, SpellsValueSort, SpellsDataSort, SpellsShapeSort, SpellsSort, SpellsTerm}
use Rattle.model_grammar.specs.Formulas as g
use Rattle.model_grammar.specs.Formulas.{SpellsFormula}
use Rattle.model_grammar.specs.Commands as c
use Rattle.model_grammar.specs.Commands.{Listed, Bracketed, SpellsVariable, SpellsCondition, SpellsCommand, SpellsBlock, SpellsCommands}
use Rattle.model_grammar.specs.Theories as files
use Rattle.model_grammar.specs.Theories.{SpellsAnyWord, SpellsNumber, SpellsDeclaration, SpellsArguments, SpellsReason, SpellsJudgement, SpellsStep, SpellsSteps, SpellsProcedure, SpellsProcedures, SpellsLogicLine, SpellsLogicLines, SpellsRaw, SpellsTheory}

-- where no token begins
abbrev is_bad : Lexeme → Bool
is_bad bad_lexeme = true
is_bad lexeme = false

-- none of the lexemes is bad
abbrev pub AreGood : List Lexeme → Type 0
AreGood lexemes = list_any is_bad lexemes ≡ false

-- then there is no bad one at any place
pub none_at : (lexemes : List Lexeme) → AreGood lexemes → (place : ℕ)
    → slice_get lexemes place ≡ Some bad_lexeme → ⊥
none_at lexemes good place at =
    let within = slice_get_within lexemes place bad_lexeme at in
    let here = get_or_from_slice_get lexemes place bad_lexeme bad_lexeme at in
    let found = list_any_at is_bad lexemes place bad_lexeme within (ap is_bad here) in cc

-- Below, a last clause with a name alone is for each word or sign that is left.

-- ---- terms

name_good : {name : List ℕ} {s : List Lexeme} → SpellsName name s → AreGood s
name_good (t.a_name name) = refl

logic_good : {name : List ℕ} {s : List Lexeme} → SpellsLogicName name s → AreGood s
logic_good (t.a_logic_name name) = refl

operator_good : {f : Term → Term → Term} {s : List Lexeme} → t.SpellsOperator f s → AreGood s
operator_good t.plus_sign = refl
operator_good l = refl

constant_good : {a : Term} {s : List Lexeme} → t.SpellsConstant a s → AreGood s
constant_good t.null_word = refl
constant_good l = refl

term_good : {place : Place} {a : Term} {s : List Lexeme} → SpellsTerm place a s → AreGood s
term_good (t.constant l) = constant_good l
term_good (t.operation l lo m) =
    simp (list_any-append, term_good l, operator_good lo, term_good m)
term_good l = refl

-- ---- formulas

word_good : {p : Named} {s : List Lexeme} → g.SpellsWord p s → AreGood s
word_good g.true_word = refl
word_good l = refl

comparison_good : {f : Term → Term → Named} {s : List Lexeme} → g.SpellsComparison f s → AreGood s
comparison_good g.equal_sign = refl
comparison_good l = refl

quantifier_good : {f : Var → Named → Named} {s : List Lexeme} → g.SpellsQuantifier f s → AreGood s
quantifier_good g.exists_word = refl
quantifier_good l = refl

connective_good : {f : Named → Named → Named} {s : List Lexeme} → g.SpellsConnective f s
    → AreGood s
connective_good g.and_word = refl
connective_good l = refl

formula_good : {p : Named} {s : List Lexeme} → SpellsFormula p s → AreGood s
formula_good (g.a_word l) = word_good l
formula_good (g.shape_variable l) = logic_good l
formula_good (g.comparison l lo m) =
    simp (list_any-append, term_good l, comparison_good lo, term_good m)
formula_good (g.node l m lp n) =
    simp (list_any-append, term_good l, term_good m, formula_good lp, term_good n)
formula_good (g.length l) = term_good l
formula_good (g.a_tree lp) = simp (list_any-append, formula_good lp)
formula_good (g.a_root lp) = simp (list_any-append, formula_good lp)
formula_good (g.not lp) = simp (list_any-append, formula_good lp)
formula_good (g.quantified lk l lp) =
    simp (list_any-append, quantifier_good lk, logic_good l, formula_good lp)
formula_good (g.is l lp) = simp (list_any-append, logic_good l, formula_good lp)
formula_good (g.joined lp lo lq) =
    simp (list_any-append, formula_good lp, connective_good lo, formula_good lq)

-- ---- conditions

variable_good : {x : ProgVar} {s : List Lexeme} → SpellsVariable x s → AreGood s
variable_good (c.a_variable l) = name_good l

cond_comparison_good : {f : Term → Term → Cond} {s : List Lexeme} → c.SpellsComparison f s
    → AreGood s
cond_comparison_good c.equal_sign = refl
cond_comparison_good l = refl

cond_connective_good : {f : Cond → Cond → Cond} {s : List Lexeme} → c.SpellsConnective f s
    → AreGood s
cond_connective_good c.and_word = refl
cond_connective_good l = refl

condition_good : {d : Cond} {s : List Lexeme} → SpellsCondition d s → AreGood s
condition_good c.true_word = refl
condition_good c.false_word = refl
condition_good (c.bool_variable l) = variable_good l
condition_good (c.comparison l lo m) =
    simp (list_any-append, term_good l, cond_comparison_good lo, term_good m)
condition_good (c.not l) = simp (list_any-append, condition_good l)
condition_good (c.joined l lo m) =
    simp (list_any-append, condition_good l, cond_connective_good lo, condition_good m)

-- ---- words for sorts

value_sort_good : {k : ValueSort} {s : List Lexeme} → SpellsValueSort k s → AreGood s
value_sort_good t.node_word = refl
value_sort_good l = refl

data_sort_good : {k : DataSort} {s : List Lexeme} → SpellsDataSort k s → AreGood s
data_sort_good t.tree_word = refl
data_sort_good l = refl

shape_sort_good : {k : Sort} {s : List Lexeme} → SpellsShapeSort k s → AreGood s
shape_sort_good (t.data_sort l) = data_sort_good l
shape_sort_good l = refl

sort_good : {k : Sort} {s : List Lexeme} → SpellsSort k s → AreGood s
sort_good (t.value_sort_word l) = value_sort_good l
sort_good (t.shape_sort_word l) = shape_sort_good l

-- ---- lists

module _ {A : Type 0} (Spells : A → List Lexeme → Type 0)
    (item_good : (x : A) (s : List Lexeme) → Spells x s → AreGood s) where
  list_good : {xs : List A} {s : List Lexeme} → Listed Spells xs s → AreGood s
  list_good (c.last_item l) = item_good _ _ l
  list_good (c.more_items l ls) = simp (list_any-append, item_good _ _ l, list_good ls)

  brackets_good : {xs : List A} {s : List Lexeme} → Bracketed Spells xs s → AreGood s
  brackets_good c.no_item = refl
  brackets_good (c.some_items ls) = simp (list_any-append, list_good ls)

-- ---- commands

query_good : {f : ProgVar → Term → Command} {s : List Lexeme} → c.SpellsQuery f s → AreGood s
query_good c.create_word = refl
query_good l = refl

change_good : {f : Term → Term → Command} {s : List Lexeme} → c.SpellsChange f s → AreGood s
change_good c.append_word = refl
change_good l = refl

setting_good : {x : ProgVar} {d : Command} {s : List Lexeme} → c.SpellsSetting x d s → AreGood s
setting_good (c.to_value l) = term_good l
setting_good (c.to_answer lq l) = simp (list_any-append, query_good lq, term_good l)
setting_good (c.to_item l m) = simp (list_any-append, term_good l, term_good m)

mutual
  command_good : {d : Command} {s : List Lexeme} → SpellsCommand d s → AreGood s
  command_good c.skip_word = refl
  command_good (c.braces l) = block_good l
  command_good (c.choice l m n) =
      simp (list_any-append, condition_good l, block_good m, block_good n)
  command_good (c.loop l m) = simp (list_any-append, condition_good l, block_good m)
  command_good (c.with_local l m n) =
      simp (list_any-append, name_good l, value_sort_good m, block_good n)
  command_good (c.a_call l m n) =
      simp (
        list_any-append,
        brackets_good SpellsVariable (λ x s k. variable_good k) l,
        name_good m,
        brackets_good (SpellsTerm in_command) (λ x s k. term_good k) n,
      )
  command_good (c.change lw l m) = simp (list_any-append, change_good lw, term_good l, term_good m)
  command_good (c.insertion l m n) =
      simp (list_any-append, term_good l, term_good m, term_good n)
  command_good (c.setting l m) = simp (list_any-append, variable_good l, setting_good m)

  block_good : {b : Block} {s : List Lexeme} → SpellsBlock b s → AreGood s
  block_good (c.in_braces ls) = simp (list_any-append, commands_good ls)

  commands_good : {b : Block} {s : List Lexeme} → SpellsCommands b s → AreGood s
  commands_good (c.last_command l) = command_good l
  commands_good (c.more_commands l ls) = simp (list_any-append, command_good l, commands_good ls)

-- ---- steps

any_word_good : {word : List ℕ} {s : List Lexeme} → SpellsAnyWord word s → AreGood s
any_word_good (files.plain_word word) = refl
any_word_good l = refl

number_good : {n : ℕ} {s : List Lexeme} → SpellsNumber n s → AreGood s
number_good (files.small_number n le) = refl

declaration_good : {x : ProgVar} {s : List Lexeme} → SpellsDeclaration x s → AreGood s
declaration_good (files.declaration l m) = simp (list_any-append, name_good l, value_sort_good m)

arguments_good : {es : List Term} {s : List Lexeme} → SpellsArguments es s → AreGood s
arguments_good files.no_argument = refl
arguments_good (files.some_arguments ls) =
    simp (list_any-append, list_good (SpellsTerm in_formula) (λ x s k. term_good k) ls)

reason_good : {r : Reason} {s : List Lexeme} → SpellsReason r s → AreGood s
reason_good files.auto_word = refl
reason_good (files.by_word l m n) =
    simp (
      list_any-append,
      any_word_good l,
      brackets_good SpellsNumber (λ x s k. number_good k) m,
      arguments_good n,
    )

judgement_good : {w : JudgementOf Named} {s : List Lexeme} → SpellsJudgement w s → AreGood s
judgement_good (files.entailment l m n) =
    simp (list_any-append, formula_good l, formula_good m, shape_sort_good n)
judgement_good (files.a_triple l m n k) =
    simp (list_any-append, formula_good l, command_good m, formula_good n, data_sort_good k)

step_good : {step : StepOf Named} {s : List Lexeme} → SpellsStep step s → AreGood s
step_good (files.a_step line l m n) =
    simp (list_any-append, number_good l, reason_good m, judgement_good n)

steps_good : {steps : List (StepOf Named)} {s : List Lexeme} → SpellsSteps steps s → AreGood s
steps_good files.no_step = refl
steps_good (files.one_step l ls) = simp (list_any-append, step_good l, steps_good ls)

-- ---- procedures and theories

procedure_good : {f : ProcedureOf Named} {s : List Lexeme} → SpellsProcedure f s → AreGood s
procedure_good (files.procedure l lxs lys lk lp lq lc ls) =
    simp (
      list_any-append,
      name_good l,
      brackets_good SpellsDeclaration (λ x s k. declaration_good k) lxs,
      brackets_good SpellsDeclaration (λ x s k. declaration_good k) lys,
      data_sort_good lk,
      formula_good lp,
      formula_good lq,
      command_good lc,
      steps_good ls,
    )

procedures_good : {fs : List (ProcedureOf Named)} {s : List Lexeme} → SpellsProcedures fs s
    → AreGood s
procedures_good (files.last_procedure l) = procedure_good l
procedures_good (files.more_procedures l ls) =
    simp (list_any-append, procedure_good l, procedures_good ls)

logic_line_good : {xs : List Var} {s : List Lexeme} → SpellsLogicLine xs s → AreGood s
logic_line_good (files.logic_line l ls) =
    simp (list_any-append, sort_good l, list_good SpellsLogicName (λ x s k. logic_good k) ls)

logic_lines_good : {xs : List Var} {s : List Lexeme} → SpellsLogicLines xs s → AreGood s
logic_lines_good files.no_line = refl
logic_lines_good (files.one_line l ls) =
    simp (list_any-append, logic_line_good l, logic_lines_good ls)

raw_good : {theory : Theory} {s : List Lexeme} → SpellsRaw theory s → AreGood s
raw_good (files.theory l m n) =
    simp (list_any-append, number_good l, logic_lines_good m, procedures_good n)

-- a lexeme is bad where it is so in its version
bad_kept : (lexeme : Lexeme) → is_bad (reserving lexeme) ≡ is_bad lexeme
bad_kept (name_lexeme word) = by_test (bytes_eq word insert_word)
  where
    by_test : (b : Bool) → is_bad (cond b (terminal word) (name_lexeme word)) ≡ false
    by_test true = refl
    by_test false = refl
bad_kept (terminal text) = refl
bad_kept (step_word line) = refl
bad_kept (logic_lexeme name) = refl
bad_kept (number_lexeme n) = refl
bad_kept (literal_lexeme text) = refl
bad_kept bad_lexeme = refl

good_seen : (version : ℕ) (lexemes : List Lexeme) → AreGood (seen_in version lexemes)
    → AreGood lexemes
good_seen version lexemes = by_test (version == 2)
  where
    all_kept : (xs : List Lexeme) → list_any is_bad (map reserving xs) ≡ list_any is_bad xs
    all_kept [] = refl
    all_kept (x ∷ xs) = λ j. bad_kept x j || all_kept xs j

    by_test : (b : Bool) → AreGood (cond b (map reserving lexemes) lexemes) → AreGood lexemes
    by_test true h = sym (all_kept lexemes) ∙ h
    by_test false h = h

good_in_version : (lexemes : List Lexeme) → AreGood (in_its_version lexemes) → AreGood lexemes
good_in_version [] h = h
good_in_version (x ∷ []) h = h
good_in_version (x ∷ number_lexeme n ∷ rest) h = good_seen n (x ∷ number_lexeme n ∷ rest) h
good_in_version (x ∷ terminal text ∷ rest) h = h
good_in_version (x ∷ step_word line ∷ rest) h = h
good_in_version (x ∷ name_lexeme name ∷ rest) h = h
good_in_version (x ∷ logic_lexeme name ∷ rest) h = h
good_in_version (x ∷ literal_lexeme text ∷ rest) h = h
good_in_version (x ∷ bad_lexeme ∷ rest) h = h

pub theory_good : {theory : Theory} {s : List Lexeme} → SpellsTheory theory s → AreGood s
theory_good {s = s} spells = good_in_version s (raw_good spells.spelled)

-- ---- groves

mutual
  tree_good : {trees : Trees} {s : List Lexeme} → SpellsTree trees s → AreGood s
  tree_good (documents.tree name number list l) = simp (list_any-append, forest_good l)

  forest_good : {trees : Trees} {s : List Lexeme} → SpellsForest trees s → AreGood s
  forest_good documents.empty_forest = refl
  forest_good (documents.some_trees ls) = trees_good ls

  trees_good : {trees : Trees} {s : List Lexeme} → SpellsTrees trees s → AreGood s
  trees_good (documents.last_tree l) = simp (list_any-append, tree_good l)
  trees_good (documents.more_trees l ls) = simp (list_any-append, tree_good l, trees_good ls)

roots_good : {trees : Trees} {s : List Lexeme} → SpellsRoots trees s → AreGood s
roots_good (documents.last_root l) = simp (list_any-append, tree_good l)
roots_good (documents.more_roots l ls) = simp (list_any-append, tree_good l, roots_good ls)

pub grove_good : {trees : Trees} {s : List Lexeme} → SpellsGrove trees s → AreGood s
grove_good documents.empty_grove = refl
grove_good (documents.some_roots ls) = roots_good ls
