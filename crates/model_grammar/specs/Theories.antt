-- The grammar of theory files, one case for each production.
use Rattle.model_limits.specs.Limits.{standard_limits}
use Rattle.std.specs.Prelude.{◌≡◌, ℕ, ◌≤◌, true, List, [], ◌∷◌, ◌++◌, codes, map}
use Rattle.model_shapes.specs.Sorts.{ValueSort, DataSort, Sort}
use Rattle.model_terms.specs.Variables.{Var, logic}
use Rattle.model_terms.specs.Terms.{Term}
use Rattle.model_formulas.specs.Formulas.{Named}
use Rattle.model_terms.specs.Stores.{ProgVar, named}
use Rattle.model_commands.specs.Commands.{Command}
use Rattle.model_commands.specs.Theories.{JudgementOf, entails, triple, Reason, auto, by_rule, StepOf, ProcedureOf, Theory}
use Rattle.model_text.specs.Lexemes.{Lexeme, terminal, step_word, name_lexeme, number_lexeme, is_reserved}
use Rattle.model_text.specs.Versions.{insert_word, in_its_version}
use Rattle.model_grammar.specs.Words.{the, ◌⌢◌}
use Rattle.model_grammar.specs.Terms.{in_formula, SpellsName, SpellsLogicName, SpellsValueSort, SpellsDataSort, SpellsShapeSort, SpellsSort, SpellsTerm}
use Rattle.model_grammar.specs.Formulas.{SpellsFormula}
use Rattle.model_grammar.specs.Sorts.{with_sorts}
use Rattle.model_grammar.specs.Commands.{Listed, Bracketed, SpellsCommand}

-- WORD: any word
pub data SpellsAnyWord : List ℕ → List Lexeme → Type 0 where
  plain_word : (word : List ℕ) → SpellsAnyWord word (name_lexeme word ∷ [])
  reserved_word : (word : List ℕ) → is_reserved word ≡ true
      → SpellsAnyWord word (terminal word ∷ [])
  step_itself : (line : ℕ) → SpellsAnyWord (codes "step") (step_word line ∷ [])
  insert_itself : SpellsAnyWord insert_word (terminal insert_word ∷ [])

-- NUM, of a step, a premise or a version: at most 4,294,967,295
pub data SpellsNumber : ℕ → List Lexeme → Type 0 where
  small_number : (n : ℕ) → n ≤ standard_limits.numeral → SpellsNumber n (number_lexeme n ∷ [])

-- NAME ":" VSORT
pub data SpellsDeclaration : ProgVar → List Lexeme → Type 0 where
  declaration : {name : List ℕ} {s : ValueSort} {word sort : List Lexeme}
      → SpellsName name word → SpellsValueSort s sort
      → SpellsDeclaration (named name s) (word ⌢ the ":" ⌢ sort)

-- ("with" "(" E ("," E)* ")")?
pub data SpellsArguments : List Term → List Lexeme → Type 0 where
  no_argument : SpellsArguments [] []
  some_arguments : {es : List Term} {items : List Lexeme} → Listed (SpellsTerm in_formula) es items
      → SpellsArguments es (the "with" ⌢ the "(" ⌢ items ⌢ the ")")

-- "auto" | "by" WORD "(" (NUM ("," NUM)*)? ")" ("with" "(" E ("," E)* ")")?
pub data SpellsReason : Reason → List Lexeme → Type 0 where
  auto_word : SpellsReason auto (the "auto")
  by_word : {name : List ℕ} {ns : List ℕ} {es : List Term} {rule premises arguments : List Lexeme}
      → SpellsAnyWord name rule → Bracketed SpellsNumber ns premises
      → SpellsArguments es arguments
      → SpellsReason (by_rule name ns es) (the "by" ⌢ rule ⌢ premises ⌢ arguments)

-- J = F "entails" F "at" SHAPESORT | "pre" F "do" C "post" F "at" DATASORT
pub data SpellsJudgement : JudgementOf Named → List Lexeme → Type 0 where
  entailment : {p q : Named} {s : Sort} {left right sort : List Lexeme}
      → SpellsFormula p left → SpellsFormula q right → SpellsShapeSort s sort
      → SpellsJudgement (entails p q s) (left ⌢ the "entails" ⌢ right ⌢ the "at" ⌢ sort)
  a_triple : {p q : Named} {c : Command} {k : DataSort} {before command behind sort : List Lexeme}
      → SpellsFormula p before → SpellsCommand c command → SpellsFormula q behind
      → SpellsDataSort k sort → SpellsJudgement (triple p c q k)
      (the "pre" ⌢ before ⌢ the "do" ⌢ command ⌢ the "post" ⌢ behind ⌢ the "at" ⌢ sort)

-- step = "step" NUM reason ":" J ";"
pub data SpellsStep : StepOf Named → List Lexeme → Type 0 where
  a_step : (line : ℕ) {n : ℕ} {r : Reason} {j : JudgementOf Named}
      {number reason judgement : List Lexeme} → SpellsNumber n number → SpellsReason r reason
      → SpellsJudgement j judgement
      → SpellsStep (record { number = n; line = line; reason = r; judgement = j })
      (step_word line ∷ (number ⌢ reason ⌢ the ":" ⌢ judgement ⌢ the ";"))

-- step*
pub data SpellsSteps : List (StepOf Named) → List Lexeme → Type 0 where
  no_step : SpellsSteps [] []
  one_step : {x : StepOf Named} {xs : List (StepOf Named)} {first others : List Lexeme}
      → SpellsStep x first → SpellsSteps xs others → SpellsSteps (x ∷ xs) (first ⌢ others)

-- proc = "proc" NAME "(" decls? ")" "returns" "(" decls? ")" "sort" DATASORT "requires" F
--        "ensures" F "body" C "proof" step* "end"
pub data SpellsProcedure : ProcedureOf Named → List Lexeme → Type 0 where
  procedure : {f : List ℕ} {xs ys : List ProgVar} {k : DataSort} {p q : Named} {c : Command}
      {steps : List (StepOf Named)}
      {name params results sort requires_ ensures_ body proof : List Lexeme}
      → SpellsName f name → Bracketed SpellsDeclaration xs params
      → Bracketed SpellsDeclaration ys results → SpellsDataSort k sort
      → SpellsFormula p requires_ → SpellsFormula q ensures_ → SpellsCommand c body
      → SpellsSteps steps proof
      → SpellsProcedure (record {
        name = f;
        params = xs;
        results = ys;
        sort = k;
        pre = p;
        post = q;
        body = c;
        proof = steps;
      })
      (the "proc" ⌢ name ⌢ params ⌢ the "returns" ⌢ results ⌢ the "sort" ⌢ sort
      ⌢ the "requires" ⌢ requires_ ⌢ the "ensures" ⌢ ensures_ ⌢ the "body" ⌢ body
      ⌢ the "proof" ⌢ proof ⌢ the "end")

-- proc proc*
pub data SpellsProcedures : List (ProcedureOf Named) → List Lexeme → Type 0 where
  last_procedure : {f : ProcedureOf Named} {only : List Lexeme} → SpellsProcedure f only
      → SpellsProcedures (f ∷ []) only
  more_procedures : {f : ProcedureOf Named} {fs : List (ProcedureOf Named)}
      {first others : List Lexeme} → SpellsProcedure f first → SpellsProcedures fs others
      → SpellsProcedures (f ∷ fs) (first ⌢ others)

-- logic = "logic" SORT LNAME ("," LNAME)* ";"
pub data SpellsLogicLine : List Var → List Lexeme → Type 0 where
  logic_line : {s : Sort} {names : List (List ℕ)} {sort words : List Lexeme}
      → SpellsSort s sort → Listed SpellsLogicName names words
      → SpellsLogicLine (map (λ name. logic name s) names) (the "logic" ⌢ sort ⌢ words ⌢ the ";")

-- logic*
pub data SpellsLogicLines : List Var → List Lexeme → Type 0 where
  no_line : SpellsLogicLines [] []
  one_line : {xs ys : List Var} {first others : List Lexeme} → SpellsLogicLine xs first
      → SpellsLogicLines ys others → SpellsLogicLines (xs ++ ys) (first ⌢ others)

-- theory = "domlogic" NUM logic* proc proc*, where each use of a variable has sort node
pub data SpellsRaw : Theory → List Lexeme → Type 0 where
  theory : {n : ℕ} {xs : List Var} {fs : List (ProcedureOf Named)}
      {version lines procedures : List Lexeme} → SpellsNumber n version
      → SpellsLogicLines xs lines → SpellsProcedures fs procedures
      → SpellsRaw (record { version = n; logic = xs; procedures = fs })
      (the "domlogic" ⌢ version ⌢ lines ⌢ procedures)

-- The lexemes spell the theory: as they are seen in their version they spell some raw theory, and
-- the theory is that with its sorts.
pub record SpellsTheory (theory : Theory) (lexemes : List Lexeme) : Type 0 where
  pub raw : Theory
  pub spelled : SpellsRaw raw (in_its_version lexemes)
  pub sorted : theory ≡ with_sorts raw
