-- The lexemes of a theory that can be written spell it, but for the sorts of its variables.
use Rattle.std.proofs.Common.{ℕ, List, [], ◌∷◌, ◌≡◌, Bool, true, false, cond, ◌==◌, refl, sym, ap, ◌∙◌, subst, map, append_assoc, append-nil, map-id, codes, bytes_eq}
use Rattle.std.specs.Prelude.{if◌then◌else◌}
use Rattle.std.proofs.lemmas.Slice.Eq.{bytes_eq-Decides}
use Rattle.model_shapes.specs.Sorts.{ValueSort, node_sort, list_sort, int_sort, str_sort, bool_sort, DataSort, tree, forest, grove, Sort, value, shape, context, is_sort}
use Rattle.model_terms.specs.Variables.{Var, prog, logic, bound}
use Rattle.model_terms.specs.Terms.{Term}
use Rattle.model_terms.specs.Stores.{ProgVar, named}
use Rattle.model_formulas.specs.Formulas.{Named}
use Rattle.model_commands.specs.Theories.{JudgementOf, entails, triple, Reason, auto, by_rule, StepOf, ProcedureOf, Theory}
use Rattle.model_text.specs.Lexemes.{Lexeme, terminal, step_word, name_lexeme, is_reserved, word_lexeme}
use Rattle.model_grammar.specs.Words.{the, ◌⌢◌}
use Rattle.model_grammar.specs.Terms as t
use Rattle.model_grammar.specs.Terms.{Place, in_formula, in_command, SpellsName, a_name, SpellsLogicName, a_logic_name, SpellsValueSort, SpellsDataSort, SpellsShapeSort, SpellsSort, SpellsTerm}
use Rattle.model_grammar.specs.Commands.{Listed, last_item, more_items, Bracketed, no_item, some_items}
use Rattle.model_grammar.specs.Theories as files
use Rattle.model_grammar.specs.Theories.{SpellsAnyWord, SpellsNumber, small_number, SpellsDeclaration, declaration, SpellsArguments, SpellsReason, SpellsJudgement, SpellsStep, SpellsSteps, SpellsProcedure, SpellsProcedures, SpellsLogicLines, SpellsRaw, SpellsTheory}
use Rattle.model_grammar.specs.Sorts.{sorted_formula, sorted_command, sorted_term, sorted_reason, sorted_judgement, sorted_step, with_sorts}
use Rattle.model_grammar.specs.Writing.{command_lexemes, term_lexemes, value_sort_lexemes, behind_commas, in_brackets}
use Rattle.model_grammar.specs.TheoryWriting.{formula_lexemes, data_sort_lexemes, sort_lexemes, declaration_lexemes, number_lexemes, word_lexemes, argument_lexemes, reason_lexemes, judgement_lexemes, logic_line, step_line, procedure_lines, procedures_lines, theory_lines, all_lexemes}
use Rattle.model_grammar.specs.Writable.{undeclared, Each, IsWritableName, IsWritableTerm}
use Rattle.model_grammar.proofs.Spelled.{term_spelled, formula_spelled, command_spelled}
use Rattle.model_round_trip.specs.Writable.{IsNumeral, IsDeclarable, IsShapeSort, IsWritableReason, IsWritableJudgement, IsWritableStep, IsWritableProcedure, HasOne, IsWritableTheory}
use Rattle.model_text.specs.Versions.{insert_word, reserving, IsOfVersion}
use Rattle.model_round_trip.proofs.Versions.{one_by_one, kept_in}
use Rattle.model_round_trip.proofs.Parts.{each_append, all_append, header_lines, in_a_row}
use Rattle.model_round_trip.proofs.Resorted.{procedure_with, theory_with, theory_resorted}

-- ---- words

value_sort_spelled : (s : ValueSort) → SpellsValueSort s (value_sort_lexemes s)
value_sort_spelled node_sort = t.node_word
value_sort_spelled list_sort = t.list_word
value_sort_spelled int_sort = t.int_word
value_sort_spelled str_sort = t.str_word
value_sort_spelled bool_sort = t.bool_word

data_sort_spelled : (k : DataSort) → SpellsDataSort k (data_sort_lexemes k)
data_sort_spelled tree = t.tree_word
data_sort_spelled forest = t.forest_word
data_sort_spelled grove = t.grove_word

shape_sort_spelled : (s : Sort) → IsShapeSort s → SpellsShapeSort s (sort_lexemes s)
shape_sort_spelled (value s) h = absurd h
shape_sort_spelled (shape k) h = t.data_sort (data_sort_spelled k)
shape_sort_spelled (context tree tree) h = t.tree_in_tree
shape_sort_spelled (context tree forest) h = t.tree_in_forest
shape_sort_spelled (context tree grove) h = t.tree_in_grove
shape_sort_spelled (context forest tree) h = t.forest_in_tree
shape_sort_spelled (context forest forest) h = t.forest_in_forest
shape_sort_spelled (context forest grove) h = t.forest_in_grove
shape_sort_spelled (context grove tree) h = absurd cc
shape_sort_spelled (context grove forest) h = absurd cc
shape_sort_spelled (context grove grove) h = t.grove_in_grove

sort_spelled : (s : Sort) → is_sort s ≡ true → SpellsSort s (sort_lexemes s)
sort_spelled (value s) h = t.value_sort_word (value_sort_spelled s)
sort_spelled (shape k) h = t.shape_sort_word (shape_sort_spelled (shape k) h)
sort_spelled (context j k) h = t.shape_sort_word (shape_sort_spelled (context j k) h)

-- a name that is a word, where that may be reserved
reserved_spelled : (word : List ℕ)
    → SpellsAnyWord word (reserving (name_lexeme word) ∷ [])
reserved_spelled word = by_test (bytes_eq word insert_word) refl
  where
    by_test : (is : Bool) → bytes_eq word insert_word ≡ is
        → SpellsAnyWord word (cond is (terminal word) (name_lexeme word) ∷ [])
    by_test true e =
        subst (λ (z : List ℕ). SpellsAnyWord z (terminal z ∷ []))
        (sym ((bytes_eq-Decides word insert_word).0 e)) files.insert_itself
    by_test false e = files.plain_word word

-- a word that is seen is spelled where it was
seen_spelled : (second : Bool) (word : List ℕ) (lexeme : Lexeme)
    → SpellsAnyWord word (lexeme ∷ [])
    → SpellsAnyWord word (cond second (reserving lexeme) lexeme ∷ [])
seen_spelled false word lexeme l = l
seen_spelled true word lexeme (files.plain_word name) = reserved_spelled name
seen_spelled true word lexeme (files.reserved_word name h) = files.reserved_word name h
seen_spelled true word lexeme (files.step_itself line) = files.step_itself line
seen_spelled true word lexeme files.insert_itself = files.insert_itself

-- any word
pub word_spelled : (v : ℕ) (word : List ℕ) → SpellsAnyWord word (word_lexemes v word)
word_spelled v word =
    subst (SpellsAnyWord word) (sym (one_by_one v (word_lexeme word 0 ∷ [])))
    (seen_spelled (v == 2) word (word_lexeme word 0) plainly)
  where
    by_tests : (step reserved : Bool) → bytes_eq word (codes "step") ≡ step
        → is_reserved word ≡ reserved
        → SpellsAnyWord word ((if step then step_word 0
        else (if reserved then terminal word else name_lexeme word)) ∷ [])
    by_tests true reserved e h =
        subst (λ (z : List ℕ). SpellsAnyWord z (step_word 0 ∷ []))
        (sym ((bytes_eq-Decides word (codes "step")).0 e)) (files.step_itself 0)
    by_tests false true e h = files.reserved_word word h
    by_tests false false e h = files.plain_word word

    plainly : SpellsAnyWord word (word_lexeme word 0 ∷ [])
    plainly = by_tests (bytes_eq word (codes "step")) (is_reserved word) refl refl

-- ---- lists

module _ {A B : Type 0} (Spells : B → List Lexeme → Type 0) (Can : A → Type 0) (made : A → B)
    (lexemes : A → List Lexeme) (spelled : (x : A) → Can x → Spells (made x) (lexemes x)) where
  list_spelled : (x : A) (xs : List A) → Can x → Each Can xs
      → Listed Spells (made x ∷ map made xs) (lexemes x ⌢ behind_commas (map lexemes xs))
  list_spelled x [] h hs =
      subst (λ (z : List Lexeme). Listed Spells (made x ∷ []) z) (sym (append-nil (lexemes x)))
      (last_item (spelled x h))
  list_spelled x (y ∷ xs) h hs = more_items (spelled x h) (list_spelled y xs hs.0 hs.1)

  brackets_spelled : (xs : List A) → Each Can xs
      → Bracketed Spells (map made xs) (in_brackets (map lexemes xs))
  brackets_spelled [] hs = no_item
  brackets_spelled (x ∷ xs) hs = some_items (list_spelled x xs hs.0 hs.1)

-- of parts that are as they are
module _ {A : Type 0} (Spells : A → List Lexeme → Type 0) (Can : A → Type 0)
    (lexemes : A → List Lexeme) (spelled : (x : A) → Can x → Spells x (lexemes x)) where
  pub same_spelled : (xs : List A) → Each Can xs
      → Bracketed Spells xs (in_brackets (map lexemes xs))
  same_spelled xs h =
      subst (λ (z : List A). Bracketed Spells z (in_brackets (map lexemes xs))) (map-id xs)
      (brackets_spelled Spells Can (λ x. x) lexemes spelled xs h)

-- ---- steps

pub number_spelled : (n : ℕ) → IsNumeral n → SpellsNumber n (number_lexemes n)
number_spelled n h = small_number n h

declaration_spelled : (x : ProgVar) → IsWritableName x
    → SpellsDeclaration x (declaration_lexemes x)
declaration_spelled (named name s) h = declaration (a_name name) (value_sort_spelled s)

pub arguments_spelled : (es : List Term) → Each (IsWritableTerm in_formula) es
    → SpellsArguments (map (sorted_term undeclared) es) (argument_lexemes es)
arguments_spelled [] h = files.no_argument
arguments_spelled (a ∷ es) h =
    files.some_arguments (list_spelled (SpellsTerm in_formula) (IsWritableTerm in_formula)
    (sorted_term undeclared) term_lexemes (term_spelled in_formula) a es h.0 h.1)

reason_spelled : (v : ℕ) (r : Reason) → IsWritableReason r
    → SpellsReason (sorted_reason undeclared r) (reason_lexemes v r)
reason_spelled v auto h = files.auto_word
reason_spelled v (by_rule name premises arguments) h =
    files.by_word (word_spelled v name)
    (same_spelled SpellsNumber IsNumeral number_lexemes number_spelled premises h.1)
    (arguments_spelled arguments h.2)

pub judgement_spelled : (w : JudgementOf Named) → IsWritableJudgement w
    → SpellsJudgement (sorted_judgement undeclared w) (judgement_lexemes w)
judgement_spelled (entails p q s) h =
    files.entailment (formula_spelled p h.0) (formula_spelled q h.1) (shape_sort_spelled s h.2)
judgement_spelled (triple p c q k) h =
    files.a_triple (formula_spelled p h.0) (command_spelled c h.1) (formula_spelled q h.2)
    (data_sort_spelled k)

step_spelled : (v : ℕ) (step : StepOf Named) → IsWritableStep step
    → SpellsStep (sorted_step undeclared step) (step_line v step)
step_spelled v step h =
    files.a_step step.line (number_spelled step.number h.number)
    (reason_spelled v step.reason h.reason) (judgement_spelled step.judgement h.judgement)

steps_spelled : (v : ℕ) (steps : List (StepOf Named)) → Each IsWritableStep steps
    → SpellsSteps (map (sorted_step undeclared) steps) (all_lexemes (map (step_line v) steps))
steps_spelled v [] h = files.no_step
steps_spelled v (step ∷ steps) h =
    files.one_step (step_spelled v step h.0) (steps_spelled v steps h.1)

-- ---- procedures and theories

-- the procedure with these for its steps
abbrev pub raw_procedure : ProcedureOf Named → List (StepOf Named) → ProcedureOf Named
raw_procedure f steps = record {
  name = f.name;
  params = f.params;
  results = f.results;
  sort = f.sort;
  pre = sorted_formula undeclared f.pre;
  post = sorted_formula undeclared f.post;
  body = sorted_command undeclared f.body;
  proof = steps;
}

-- the header as one list of lexemes and as several
header_apart : (params results sort pre post body rest : List Lexeme) (name : Lexeme)
    → the "proc" ⌢ name ∷ [] ⌢ params ⌢ the "returns" ⌢ results ⌢ the "sort" ⌢ sort
    ⌢ the "requires" ⌢ pre ⌢ the "ensures" ⌢ post ⌢ the "body" ⌢ body ⌢ the "proof" ⌢ rest
    ≡ all_lexemes ((the "proc" ⌢ name ∷ [] ⌢ params ⌢ the "returns" ⌢ results ⌢ the "sort" ⌢ sort)
    ∷ (the "requires" ⌢ pre) ∷ (the "ensures" ⌢ post) ∷ (the "body" ⌢ body) ∷ the "proof" ∷ [])
    ⌢ rest
header_apart params results sort pre post body rest name =
    sym (apart (the "proc" ⌢ name ∷ [] ⌢ params ⌢ the "returns" ⌢ results ⌢ the "sort" ⌢ sort)
    (the "requires" ⌢ pre) (the "ensures" ⌢ post) (the "body" ⌢ body)
    ∙ (λ j. the "proc" ⌢ name ∷ [] ⌢ first (the "requires" ⌢ pre ⌢ the "ensures" ⌢ post
    ⌢ the "body" ⌢ body ⌢ the "proof" ⌢ rest) j)) where
      apart : (a b c d : List Lexeme)
          → (a ⌢ b ⌢ c ⌢ d ⌢ the "proof") ⌢ rest ≡ a ⌢ b ⌢ c ⌢ d ⌢ the "proof" ⌢ rest
      apart a b c d = simp append_assoc refl

      first : (more : List Lexeme) → (params ⌢ the "returns" ⌢ results ⌢ the "sort" ⌢ sort) ⌢ more
          ≡ params ⌢ the "returns" ⌢ results ⌢ the "sort" ⌢ sort ⌢ more
      first more = simp append_assoc refl

pub procedure_around : (f : ProcedureOf Named) → IsWritableProcedure f
    → {steps : List (StepOf Named)} {proof : List Lexeme} → SpellsSteps steps proof
    → SpellsProcedure (raw_procedure f steps) (all_lexemes (header_lines f) ⌢ proof ⌢ the "end")
procedure_around f h {steps} {proof} l =
    subst (SpellsProcedure (raw_procedure f steps))
    (header_apart (in_brackets (map declaration_lexemes f.params))
    (in_brackets (map declaration_lexemes f.results)) (data_sort_lexemes f.sort)
    (formula_lexemes f.pre) (formula_lexemes f.post) (command_lexemes f.body)
    (proof ⌢ the "end") (name_lexeme f.name))
    (files.procedure (a_name f.name)
    (same_spelled SpellsDeclaration IsWritableName declaration_lexemes declaration_spelled f.params
    h.params)
    (same_spelled SpellsDeclaration IsWritableName declaration_lexemes declaration_spelled
    f.results h.results)
    (data_sort_spelled f.sort) (formula_spelled f.pre h.pre) (formula_spelled f.post h.post)
    (command_spelled f.body h.body) l)

procedure_spelled : (v : ℕ) (f : ProcedureOf Named) → IsWritableProcedure f
    → SpellsProcedure (procedure_with undeclared f) (all_lexemes (procedure_lines v f))
procedure_spelled v f h =
    subst (SpellsProcedure (procedure_with undeclared f)) (sym (in_a_row v f))
    (procedure_around f h (steps_spelled v f.proof h.proof))

procedures_spelled : (v : ℕ) (fs : List (ProcedureOf Named)) → HasOne fs
    → Each IsWritableProcedure fs
    → SpellsProcedures (map (procedure_with undeclared) fs) (all_lexemes (procedures_lines v fs))
procedures_spelled v [] one h = absurd one
procedures_spelled v (f ∷ []) one h =
    subst (SpellsProcedures (procedure_with undeclared f ∷ []))
    (ap all_lexemes (sym (append-nil (procedure_lines v f))))
    (files.last_procedure (procedure_spelled v f h.0))
procedures_spelled v (f ∷ g ∷ fs) one h =
    subst (SpellsProcedures (map (procedure_with undeclared) (f ∷ g ∷ fs)))
    (sym (all_append (procedure_lines v f) (procedures_lines v (g ∷ fs))))
    (files.more_procedures (procedure_spelled v f h.0) (procedures_spelled v (g ∷ fs) tt h.1))

logic_spelled : (x : Var) (xs : List Var) {more : List Lexeme} → IsDeclarable x
    → SpellsLogicLines xs more → SpellsLogicLines (x ∷ xs) (logic_line x ⌢ more)
logic_spelled (logic name s) xs h l =
    files.one_line (files.logic_line (sort_spelled s h.1) (last_item (a_logic_name name))) l
logic_spelled (prog name s) xs h l = absurd h.0
logic_spelled (bound i s) xs h l = absurd h.0

pub logics_spelled : (xs : List Var) → Each IsDeclarable xs
    → SpellsLogicLines xs (all_lexemes (map logic_line xs))
logics_spelled [] h = files.no_line
logics_spelled (x ∷ xs) h = logic_spelled x xs h.0 (logics_spelled xs h.1)

-- with node as the sort of each use of a variable
abbrev pub raw : Theory → Theory
raw = theory_with (λ f. undeclared)

raw_spelled : (theory : Theory) → IsWritableTheory theory
    → SpellsRaw (raw theory) (all_lexemes (theory_lines theory))
raw_spelled theory h =
    subst (λ (z : List Lexeme). SpellsRaw (raw theory)
    (the "domlogic" ⌢ number_lexemes theory.version ⌢ z))
    (sym (all_append (map logic_line theory.logic)
    (procedures_lines theory.version theory.procedures)))
    (files.theory (number_spelled theory.version h.version) (logics_spelled theory.logic h.logic)
    (procedures_spelled theory.version theory.procedures h.some h.procedures))

-- its words are those of its version, line by line and together
pub all_of_version : (theory : Theory) → IsWritableTheory theory
    → Each (IsOfVersion theory.version) (all_lexemes (theory_lines theory))
all_of_version theory h = together (theory_lines theory) h.words
  where
    together : (lines : List (List Lexeme)) → Each (Each (IsOfVersion theory.version)) lines
        → Each (IsOfVersion theory.version) (all_lexemes lines)
    together [] k = tt
    together (line ∷ lines) k =
        each_append (IsOfVersion theory.version) line (all_lexemes lines) k.0
        (together lines k.1)

pub theory_spelled : (theory : Theory) → IsWritableTheory theory → with_sorts theory ≡ theory
    → SpellsTheory theory (all_lexemes (theory_lines theory))
theory_spelled theory h e = record {
  raw = raw theory;
  spelled = subst (SpellsRaw (raw theory)) (sym (kept_in theory.version
      (all_lexemes (theory_lines theory)) (all_of_version theory h))) (raw_spelled theory h);
  sorted = sym e ∙ sym (theory_resorted (λ f. undeclared) theory);
}
