-- What lexemes of tokens spell can be written.
use Rattle.std.proofs.Common.{ℕ, List, [], ◌∷◌, ◌≡◌, true, refl, sym, subst, map, inl, inr}
use Rattle.model_shapes.specs.Sorts.{Sort, value, shape, context, is_sort}
use Rattle.model_terms.specs.Terms.{Term}
use Rattle.model_terms.specs.Variables.{Var, logic}
use Rattle.model_terms.specs.Stores.{ProgVar}
use Rattle.model_terms.specs.Conditions.{Cond}
use Rattle.model_formulas.specs.Formulas.{Named}
use Rattle.model_commands.specs.Commands.{Command, Block}
use Rattle.model_commands.specs.Theories.{JudgementOf, Reason, StepOf, ProcedureOf, Theory}
use Rattle.model_text.specs.Lexemes.{Lexeme, terminal, name_lexeme, logic_lexeme, is_reserved}
use Rattle.model_text.specs.FaultTokens.{AreOfTokens}
use Rattle.model_text.specs.Versions.{insert_word, IsOfVersion}
use Rattle.model_grammar.specs.Terms as t
use Rattle.model_grammar.specs.Terms.{Place, in_formula, in_command, used_logic, SpellsName, a_name, SpellsLogicName, a_logic_name, SpellsSort, SpellsShapeSort, SpellsTerm}
use Rattle.model_grammar.specs.Formulas as g
use Rattle.model_grammar.specs.Formulas.{SpellsFormula}
use Rattle.model_grammar.specs.Commands as c
use Rattle.model_grammar.specs.Commands.{Listed, Bracketed, SpellsVariable, SpellsCondition, SpellsCommand, SpellsBlock, SpellsCommands}
use Rattle.model_grammar.specs.Theories as files
use Rattle.model_grammar.specs.Theories.{SpellsAnyWord, SpellsNumber, SpellsDeclaration, SpellsArguments, SpellsReason, SpellsJudgement, SpellsStep, SpellsSteps, SpellsProcedure, SpellsProcedures, SpellsLogicLine, SpellsLogicLines, SpellsRaw, SpellsTheory}
use Rattle.model_grammar.specs.Writable.{Each, IsName, IsLogicName, IsWritableName, IsWritableTerm, IsWritable, IsWritableCondition, IsWritableCommand, IsWritableBlock, AreWritable}
use Rattle.model_round_trip.specs.Writable.{IsWord, IsNumeral, IsDeclarable, IsShapeSort, IsWritableReason, IsWritableJudgement, IsWritableStep, IsWritableProcedure, HasOne, IsWritableTheory}
use Rattle.model_round_trip.proofs.Parts.{each_append, each_split}
use Rattle.model_round_trip.proofs.Tokens.{name_of_token, logic_of_token, name_is_word, reserved_is_word, step_is_word}
use Rattle.model_round_trip.proofs.StillWritable.{theory_sorted}
use Rattle.model_text.proofs.Versions.{in_version_of}
use Rattle.model_round_trip.proofs.Versions.{IsSeen, AreSeen, insert_is_word, tokens_seen, tokens_of_version}
use Rattle.model_round_trip.proofs.ReadTexts.{raw_words, begins_with_version}

-- ---- terms

-- the reserved word is no name
name_seen : (name : List ℕ) → IsSeen (name_lexeme name) → IsName name
name_seen name (inl h) = name_of_token name h
name_seen name (inr e) = absurd cc

logic_seen : (name : List ℕ) → IsSeen (logic_lexeme name) → IsLogicName name
logic_seen name (inl h) = logic_of_token name h
logic_seen name (inr e) = absurd cc

name_readable : {name : List ℕ} {s : List Lexeme} → SpellsName name s → AreSeen s → IsName name
name_readable (a_name name) h = name_seen name h.0

logic_readable : {name : List ℕ} {s : List Lexeme} → SpellsLogicName name s → AreSeen s
    → IsLogicName name
logic_readable (a_logic_name name) h = logic_seen name h.0

constant_readable : (place : Place) {a : Term} {s : List Lexeme} → t.SpellsConstant a s
    → IsWritableTerm place a
constant_readable place t.null_word = tt
constant_readable place t.nolist_word = tt
constant_readable place t.yes_word = tt
constant_readable place t.no_word = tt

operation_readable : (place : Place) {f : Term → Term → Term} {s : List Lexeme}
    → t.SpellsOperator f s → (a b : Term) → IsWritableTerm place a → IsWritableTerm place b
    → IsWritableTerm place (f a b)
operation_readable place t.plus_sign a b h k = (h, k)
operation_readable place t.minus_sign a b h k = (h, k)
operation_readable place t.append_sign a b h k = (h, k)

term_readable : {place : Place} {a : Term} {s : List Lexeme} → SpellsTerm place a s
    → AreSeen s → IsWritableTerm place a
term_readable (t.program_variable name) h = name_seen name h.0
term_readable (t.logic_variable name) h = logic_seen name h.0
term_readable (t.text_literal text) h = tt
term_readable (t.number_literal n le) h = le
term_readable (t.negative_literal n le) h = le
term_readable {place} (t.constant l) h = constant_readable place l
term_readable {place} (t.operation {a = a} {b = b} {left = left} {sign = sign} {right = right}
    l lo m) h =
    let x = each_split IsSeen left _ h.1 in
    let y = each_split IsSeen right _ (each_split IsSeen sign _ x.1).1 in
    operation_readable place lo a b (term_readable l x.0) (term_readable m y.0)

-- ---- formulas

word_readable : {p : Named} {s : List Lexeme} → g.SpellsWord p s → IsWritable p
word_readable g.true_word = tt
word_readable g.false_word = tt
word_readable g.empty_forest = tt
word_readable g.empty_grove = tt
word_readable g.tree_hole = tt
word_readable g.forest_hole = tt
word_readable g.grove_hole = tt

comparison_readable : {f : Term → Term → Named} {s : List Lexeme} → g.SpellsComparison f s
    → (a b : Term) → IsWritableTerm in_formula a → IsWritableTerm in_formula b
    → IsWritable (f a b)
comparison_readable g.equal_sign a b h k = (h, k)
comparison_readable g.at_most_sign a b h k = (h, k)

quantifier_readable : {f : Var → Named → Named} {s : List Lexeme} → g.SpellsQuantifier f s
    → (name : List ℕ) (p : Named) → IsLogicName name → IsWritable p
    → IsWritable (f (used_logic name) p)
quantifier_readable g.exists_word name p h k = (h, k)
quantifier_readable g.forall_word name p h k = (h, k)

connective_readable : {f : Named → Named → Named} {s : List Lexeme} → g.SpellsConnective f s
    → (p q : Named) → IsWritable p → IsWritable q → IsWritable (f p q)
connective_readable g.and_word p q h k = (h, k)
connective_readable g.or_word p q h k = (h, k)
connective_readable g.arrow p q h k = (h, k)
connective_readable g.star p q h k = (h, k)
connective_readable g.left_star p q h k = (h, k)
connective_readable g.right_star p q h k = (h, k)
connective_readable g.plus p q h k = (h, k)
connective_readable g.left_plus p q h k = (h, k)
connective_readable g.at_tree p q h k = (h, k)
connective_readable g.at_forest p q h k = (h, k)
connective_readable g.at_grove p q h k = (h, k)
connective_readable g.lollipop p q h k = (h, k)
connective_readable g.into_tree p q h k = (h, k)
connective_readable g.into_forest p q h k = (h, k)
connective_readable g.into_grove p q h k = (h, k)

pub formula_readable : {p : Named} {s : List Lexeme} → SpellsFormula p s → AreSeen s
    → IsWritable p
formula_readable (g.a_word l) h = word_readable l
formula_readable (g.shape_variable l) h = logic_readable l h
formula_readable (g.comparison {a = a} {b = b} {left = left} {sign = sign} l lo m) h =
    let x = each_split IsSeen left _ h in
    comparison_readable lo a b (term_readable l x.0)
    (term_readable m (each_split IsSeen sign _ x.1).1)
formula_readable (g.node {name = name} {number = number} {children = children} l m lp k) h =
    let x = each_split IsSeen name _ h in
    let y = each_split IsSeen number _ x.1.1 in
    let z = each_split IsSeen children _ y.1.1 in
    (term_readable l x.0, term_readable m y.0, formula_readable lp z.0, term_readable k z.1.1.1)
formula_readable (g.length l) h = term_readable l h.1
formula_readable (g.a_tree {inner = inner} lp) h =
    formula_readable lp (each_split IsSeen inner _ h.1).0
formula_readable (g.a_root {inner = inner} lp) h =
    formula_readable lp (each_split IsSeen inner _ h.1).0
formula_readable (g.not {inner = inner} lp) h =
    formula_readable lp (each_split IsSeen inner _ h.1.1).0
formula_readable (g.quantified {name = name} {p = p} {kind = kind} {word = word} {inner = inner}
    lk l lp) h =
    let x = each_split IsSeen word _ (each_split IsSeen kind _ h.1).1 in
    quantifier_readable lk name p (logic_readable l x.0)
    (formula_readable lp (each_split IsSeen inner _ x.1.1).0)
formula_readable (g.is {word = word} {inner = inner} l lp) h =
    let x = each_split IsSeen word _ h.1 in
    (logic_readable l x.0, formula_readable lp (each_split IsSeen inner _ x.1.1).0)
formula_readable (g.joined {p = p} {q = q} {left = left} {sign = sign} {right = right} lp lo lq)
    h =
    let x = each_split IsSeen left _ h.1 in
    let y = each_split IsSeen right _ (each_split IsSeen sign _ x.1).1 in
    connective_readable lo p q (formula_readable lp x.0) (formula_readable lq y.0)

-- ---- conditions

variable_readable : {x : ProgVar} {s : List Lexeme} → SpellsVariable x s → AreSeen s
    → IsWritableName x
variable_readable (c.a_variable l) h = name_readable l h

cond_comparison_readable : {f : Term → Term → Cond} {s : List Lexeme} → c.SpellsComparison f s
    → (a b : Term) → IsWritableTerm in_command a → IsWritableTerm in_command b
    → IsWritableCondition (f a b)
cond_comparison_readable c.equal_sign a b h k = (h, k)
cond_comparison_readable c.at_most_sign a b h k = (h, k)

cond_connective_readable : {f : Cond → Cond → Cond} {s : List Lexeme} → c.SpellsConnective f s
    → (d e : Cond) → IsWritableCondition d → IsWritableCondition e → IsWritableCondition (f d e)
cond_connective_readable c.and_word d e h k = (h, k)
cond_connective_readable c.or_word d e h k = (h, k)

condition_readable : {d : Cond} {s : List Lexeme} → SpellsCondition d s → AreSeen s
    → IsWritableCondition d
condition_readable c.true_word h = tt
condition_readable c.false_word h = tt
condition_readable (c.bool_variable l) h = variable_readable l h
condition_readable (c.comparison {a = a} {b = b} {left = left} {sign = sign} l lo m) h =
    let x = each_split IsSeen left _ h in
    cond_comparison_readable lo a b (term_readable l x.0)
    (term_readable m (each_split IsSeen sign _ x.1).1)
condition_readable (c.not {inner = inner} l) h =
    condition_readable l (each_split IsSeen inner _ h.1.1).0
condition_readable (c.joined {c = d} {d = e} {left = left} {sign = sign} {right = right} l lo m)
    h =
    let x = each_split IsSeen left _ h.1 in
    let y = each_split IsSeen right _ (each_split IsSeen sign _ x.1).1 in
    cond_connective_readable lo d e (condition_readable l x.0) (condition_readable m y.0)

-- ---- lists

module _ {A : Type 0} (Spells : A → List Lexeme → Type 0) (Can : A → Type 0)
    (readable : (x : A) (s : List Lexeme) → Spells x s → AreSeen s → Can x) where
  list_readable : {xs : List A} {s : List Lexeme} → Listed Spells xs s → AreSeen s
      → Each Can xs
  list_readable (c.last_item {x = x} {item = item} l) h = (readable x item l h, tt)
  list_readable (c.more_items {x = x} {item = item} l ls) h =
      let y = each_split IsSeen item _ h in (readable x item l y.0, list_readable ls y.1.1)

  brackets_readable : {xs : List A} {s : List Lexeme} → Bracketed Spells xs s → AreSeen s
      → Each Can xs
  brackets_readable c.no_item h = tt
  brackets_readable (c.some_items {items = items} ls) h =
      list_readable ls (each_split IsSeen items _ h.1).0

-- ---- commands

query_readable : {query : ProgVar → Term → Command} {s : List Lexeme} → c.SpellsQuery query s
    → (x : ProgVar) (a : Term) → IsWritableName x → IsWritableTerm in_command a
    → IsWritableCommand (query x a)
query_readable c.create_word x a h k = (h, k)
query_readable c.name_word x a h k = (h, k)
query_readable c.parent_word x a h k = (h, k)
query_readable c.children_word x a h k = (h, k)

change_readable : {change : Term → Term → Command} {s : List Lexeme} → c.SpellsChange change s
    → (a b : Term) → IsWritableTerm in_command a → IsWritableTerm in_command b
    → IsWritableCommand (change a b)
change_readable c.append_word a b h k = (h, k)
change_readable c.remove_word a b h k = (h, k)

setting_readable : {x : ProgVar} {d : Command} {s : List Lexeme} → c.SpellsSetting x d s
    → IsWritableName x → AreSeen s → IsWritableCommand d
setting_readable (c.to_value l) k h = (k, term_readable l h)
setting_readable {x} (c.to_answer {a = a} {word = word} {argument = argument} lw l) k h =
    query_readable lw x a k
    (term_readable l (each_split IsSeen argument _ (each_split IsSeen word _ h).1.1).0)
setting_readable (c.to_item {list = list} {place = place} l m) k h =
    let y = each_split IsSeen list _ h.1.1 in
    (k, term_readable l y.0, term_readable m (each_split IsSeen place _ y.1.1).0)

mutual
  pub command_readable : {d : Command} {s : List Lexeme} → SpellsCommand d s → AreSeen s
      → IsWritableCommand d
  command_readable c.skip_word h = tt
  command_readable (c.braces l) h = block_readable l h
  command_readable (c.choice {test = test} {first = first} l m n) h =
      let x = each_split IsSeen test _ h.1 in
      let y = each_split IsSeen first _ x.1 in
      (condition_readable l x.0, block_readable m y.0, block_readable n y.1.1)
  command_readable (c.loop {test = test} l m) h =
      let x = each_split IsSeen test _ h.1 in (condition_readable l x.0, block_readable m x.1)
  command_readable (c.with_local {word = word} {sort = sort} l m n) h =
      let x = each_split IsSeen word _ h.1 in
      (name_readable l x.0, block_readable n (each_split IsSeen sort _ x.1.1).1)
  command_readable (c.a_call {results = results} {word = word} l m n) h =
      let x = each_split IsSeen results _ h.1 in
      let y = each_split IsSeen word _ x.1.1 in (
        brackets_readable SpellsVariable IsWritableName (λ z s k. variable_readable k) l x.0,
        name_readable m y.0,
        brackets_readable (SpellsTerm in_command) (IsWritableTerm in_command)
            (λ z s k. term_readable k) n y.1,
      )
  command_readable (c.change {a = a} {b = b} {word = word} {parent = parent} {child = child}
      lw l m) h =
      let x = each_split IsSeen parent _ (each_split IsSeen word _ h).1.1 in
      change_readable lw a b (term_readable l x.0)
      (term_readable m (each_split IsSeen child _ x.1.1).0)
  command_readable (c.insertion {parent = parent} {child = child} {next = next} l m n) h =
      let x = each_split IsSeen parent _ h.1.1 in
      let y = each_split IsSeen child _ x.1.1 in
      (term_readable l x.0, term_readable m y.0, term_readable n (each_split IsSeen next _ y.1.1).0)
  command_readable (c.setting {word = word} l m) h =
      let x = each_split IsSeen word _ h in setting_readable m (variable_readable l x.0) x.1.1

  block_readable : {b : Block} {s : List Lexeme} → SpellsBlock b s → AreSeen s
      → IsWritableBlock b
  block_readable (c.in_braces {inner = inner} ls) h =
      first_readable ls (each_split IsSeen inner _ h.1).0

  first_readable : {b : Block} {s : List Lexeme} → SpellsCommands b s → AreSeen s
      → IsWritableBlock b
  first_readable (c.last_command l) h = (command_readable l h, tt)
  first_readable (c.more_commands {first = first} l ls) h =
      let x = each_split IsSeen first _ h in (command_readable l x.0, further_readable ls x.1.1)

  further_readable : {b : Block} {s : List Lexeme} → SpellsCommands b s → AreSeen s
      → AreWritable b
  further_readable (c.last_command l) h = (command_readable l h, tt)
  further_readable (c.more_commands {first = first} l ls) h =
      let x = each_split IsSeen first _ h in (command_readable l x.0, further_readable ls x.1.1)

-- ---- steps

plain_seen : (name : List ℕ) → IsSeen (name_lexeme name) → IsWord name
plain_seen name (inl h) = name_is_word name h
plain_seen name (inr e) = absurd cc

reserved_seen : (name : List ℕ) → is_reserved name ≡ true → IsSeen (terminal name) → IsWord name
reserved_seen name e (inl h) = reserved_is_word name e h
reserved_seen name e (inr f) =
    let same : name ≡ insert_word = cc in subst IsWord (sym same) insert_is_word

any_word_readable : {word : List ℕ} {s : List Lexeme} → SpellsAnyWord word s → AreSeen s
    → IsWord word
any_word_readable (files.plain_word word) h = plain_seen word h.0
any_word_readable (files.reserved_word word e) h = reserved_seen word e h.0
any_word_readable (files.step_itself line) h = step_is_word
any_word_readable files.insert_itself h = insert_is_word

number_readable : {n : ℕ} {s : List Lexeme} → SpellsNumber n s → IsNumeral n
number_readable (files.small_number n le) = le

declaration_readable : {x : ProgVar} {s : List Lexeme} → SpellsDeclaration x s → AreSeen s
    → IsWritableName x
declaration_readable (files.declaration {word = word} l m) h =
    name_readable l (each_split IsSeen word _ h).0

arguments_readable : {es : List Term} {s : List Lexeme} → SpellsArguments es s → AreSeen s
    → Each (IsWritableTerm in_formula) es
arguments_readable files.no_argument h = tt
arguments_readable (files.some_arguments {items = items} ls) h =
    list_readable (SpellsTerm in_formula) (IsWritableTerm in_formula) (λ z s k. term_readable k)
    ls (each_split IsSeen items _ h.1.1).0

reason_readable : {r : Reason} {s : List Lexeme} → SpellsReason r s → AreSeen s
    → IsWritableReason r
reason_readable files.auto_word h = tt
reason_readable (files.by_word {rule = rule} {premises = premises} l m n) h =
    let x = each_split IsSeen rule _ h.1 in
    let y = each_split IsSeen premises _ x.1 in (
      any_word_readable l x.0,
      brackets_readable SpellsNumber IsNumeral (λ z s k seen. number_readable k) m y.0,
      arguments_readable n y.1,
    )

shape_sort_readable : {k : Sort} {s : List Lexeme} → SpellsShapeSort k s → IsShapeSort k
shape_sort_readable (t.data_sort l) = refl
shape_sort_readable t.tree_in_tree = refl
shape_sort_readable t.tree_in_forest = refl
shape_sort_readable t.tree_in_grove = refl
shape_sort_readable t.forest_in_tree = refl
shape_sort_readable t.forest_in_forest = refl
shape_sort_readable t.forest_in_grove = refl
shape_sort_readable t.grove_in_grove = refl

judgement_readable : {w : JudgementOf Named} {s : List Lexeme} → SpellsJudgement w s
    → AreSeen s → IsWritableJudgement w
judgement_readable (files.entailment {left = left} {right = right} l m n) h =
    let x = each_split IsSeen left _ h in (
      formula_readable l x.0,
      formula_readable m (each_split IsSeen right _ x.1.1).0,
      shape_sort_readable n,
    )
judgement_readable (files.a_triple {before = before} {command = command} {behind = behind} l m n k)
    h =
    let x = each_split IsSeen before _ h.1 in
    let y = each_split IsSeen command _ x.1.1 in (
      formula_readable l x.0,
      command_readable m y.0,
      formula_readable n (each_split IsSeen behind _ y.1.1).0,
    )

step_readable : {step : StepOf Named} {s : List Lexeme} → SpellsStep step s → AreSeen s
    → IsWritableStep step
step_readable (files.a_step line {number = number} {reason = reason} {judgement = judgement}
    l m n) h =
    let x = each_split IsSeen reason _ (each_split IsSeen number _ h.1).1 in record {
      number = number_readable l;
      reason = reason_readable m x.0;
      judgement = judgement_readable n (each_split IsSeen judgement _ x.1.1).0;
    }

steps_readable : {steps : List (StepOf Named)} {s : List Lexeme} → SpellsSteps steps s
    → AreSeen s → Each IsWritableStep steps
steps_readable files.no_step h = tt
steps_readable (files.one_step {first = first} l ls) h =
    let x = each_split IsSeen first _ h in (step_readable l x.0, steps_readable ls x.1)

-- ---- procedures and theories

procedure_readable : {f : ProcedureOf Named} {s : List Lexeme} → SpellsProcedure f s
    → AreSeen s → IsWritableProcedure f
procedure_readable (files.procedure {name = name} {params = params} {results = results}
    {sort = sort} {requires_ = pre} {ensures_ = post} {body = body} {proof = proof}
    lf lxs lys lk lp lq lc ls) h =
    let a = each_split IsSeen name _ h.1 in
    let b = each_split IsSeen params _ a.1 in
    let d = each_split IsSeen results _ b.1.1 in
    let e = each_split IsSeen pre _ (each_split IsSeen sort _ d.1.1).1.1 in
    let i = each_split IsSeen post _ e.1.1 in
    let j = each_split IsSeen body _ i.1.1 in record {
      name = name_readable lf a.0;
      params = brackets_readable SpellsDeclaration IsWritableName
          (λ z s k. declaration_readable k) lxs b.0;
      results = brackets_readable SpellsDeclaration IsWritableName
          (λ z s k. declaration_readable k) lys d.0;
      pre = formula_readable lp e.0;
      post = formula_readable lq i.0;
      body = command_readable lc j.0;
      proof = steps_readable ls (each_split IsSeen proof _ j.1.1).0;
    }

procedures_readable : {fs : List (ProcedureOf Named)} {s : List Lexeme} → SpellsProcedures fs s
    → AreSeen s → Each IsWritableProcedure fs
procedures_readable (files.last_procedure l) h = (procedure_readable l h, tt)
procedures_readable (files.more_procedures {first = first} l ls) h =
    let x = each_split IsSeen first _ h in (procedure_readable l x.0, procedures_readable ls x.1)

one_spelled : {fs : List (ProcedureOf Named)} {s : List Lexeme} → SpellsProcedures fs s
    → HasOne fs
one_spelled (files.last_procedure l) = tt
one_spelled (files.more_procedures l ls) = tt

sort_readable : {k : Sort} {s : List Lexeme} → SpellsSort k s → is_sort k ≡ true
sort_readable (t.value_sort_word l) = refl
sort_readable (t.shape_sort_word {s = s} l) = shape_is_sort s (shape_sort_readable l) where
  shape_is_sort : (s : Sort) → IsShapeSort s → is_sort s ≡ true
  shape_is_sort (value s) h = refl
  shape_is_sort (shape k) h = h
  shape_is_sort (context j k) h = h

logic_names_readable : (k : Sort) → is_sort k ≡ true → (names : List (List ℕ))
    → Each IsLogicName names → Each IsDeclarable (map (λ name. logic name k) names)
logic_names_readable k e [] h = tt
logic_names_readable k e (name ∷ names) h = ((h.0, e), logic_names_readable k e names h.1)

logic_line_readable : {xs : List Var} {s : List Lexeme} → SpellsLogicLine xs s → AreSeen s
    → Each IsDeclarable xs
logic_line_readable (files.logic_line {s = k} {names = names} {sort = sort} {words = words} l ls)
    h =
    logic_names_readable k (sort_readable l) names
    (list_readable SpellsLogicName IsLogicName (λ z s m. logic_readable m) ls
    (each_split IsSeen words _ (each_split IsSeen sort _ h.1).1).0)

logic_lines_readable : {xs : List Var} {s : List Lexeme} → SpellsLogicLines xs s → AreSeen s
    → Each IsDeclarable xs
logic_lines_readable files.no_line h = tt
logic_lines_readable (files.one_line {xs = xs} {ys = ys} {first = first} l ls) h =
    let x = each_split IsSeen first _ h in
    each_append IsDeclarable xs ys (logic_line_readable l x.0) (logic_lines_readable ls x.1)

raw_readable : {theory : Theory} {s : List Lexeme} → SpellsRaw theory s → AreSeen s
    → Each (IsOfVersion theory.version) s → IsWritableTheory theory
raw_readable {theory} (files.theory {version = version} {lines = lines} l m n) h k =
    let x = each_split IsSeen lines _ (each_split IsSeen version _ h.1).1 in record {
      version = number_readable l;
      logic = logic_lines_readable m x.0;
      some = one_spelled n;
      procedures = procedures_readable n x.1;
      words = raw_words (files.theory l m n) k;
    }

pub theory_readable : {theory : Theory} {s : List Lexeme} → SpellsTheory theory s → AreOfTokens s
    → IsWritableTheory theory
theory_readable {s = s} spells h =
    let begins = begins_with_version spells.spelled in
    let seen = in_version_of s _ spells.raw.version begins.0 begins.1 in
    subst IsWritableTheory (sym spells.sorted)
    (theory_sorted spells.raw (raw_readable spells.spelled
    (subst AreSeen (sym seen) (tokens_seen spells.raw.version s h))
    (subst (Each (IsOfVersion spells.raw.version)) (sym seen)
    (tokens_of_version spells.raw.version s h))))
