-- Needn't be believed: the program's promise doesn't speak of it. The theories that can be written:
-- the program prints each of them so that it reads back.
use Rattle.model_limits.specs.Limits.{standard_limits}
use Rattle.std.specs.Prelude.{◌≡◌, ℕ, ◌≤◌, true, List, [], ◌∷◌}
use Rattle.model_shapes.specs.Sorts.{Sort, value, is_sort}
use Rattle.model_terms.specs.Variables.{Var, var_sort}
use Rattle.model_formulas.specs.Formulas.{Named}
use Rattle.model_commands.specs.Theories.{JudgementOf, entails, triple, Reason, auto, by_rule, StepOf, ProcedureOf, Theory}
use Rattle.model_text.specs.Lexemes.{word_lexeme}
use Rattle.model_text.specs.Versions.{IsOfVersion}
use Rattle.model_text.specs.Nesting.{lexemes_of}
use Rattle.model_grammar.specs.Terms.{in_formula}
use Rattle.model_grammar.specs.TheoryWriting.{theory_lines}
use Rattle.model_grammar.specs.Writable.{Each, IsName, IsWritableName, IsLogic, IsWritableTerm, IsWritable, IsWritableCommand}

-- the name is one word, reserved or not
abbrev pub IsWord : List ℕ → Type 0
IsWord name = lexemes_of name ≡ word_lexeme name 1 ∷ []

-- the number of a step, a premise or a version is no greater than the most
abbrev pub IsNumeral : ℕ → Type 0
IsNumeral n = n ≤ standard_limits.numeral

-- the variable is one of the logic, and there is a word for its sort
abbrev pub IsDeclarable : Var → Type 0
IsDeclarable x = IsLogic x × (is_sort (var_sort x) ≡ true)

-- the sort is one of shapes or contexts, and there is a word for it
abbrev pub IsShapeSort : Sort → Type 0
IsShapeSort (value s) = ⊥
IsShapeSort s = is_sort s ≡ true

-- the reason can be written
abbrev pub IsWritableReason : Reason → Type 0
IsWritableReason auto = Unit
IsWritableReason (by_rule name premises arguments) =
    IsWord name × Each IsNumeral premises × Each (IsWritableTerm in_formula) arguments

-- the judgement
abbrev pub IsWritableJudgement : JudgementOf Named → Type 0
IsWritableJudgement (entails p q s) = IsWritable p × IsWritable q × IsShapeSort s
IsWritableJudgement (triple p c q k) = IsWritable p × IsWritableCommand c × IsWritable q

-- the step
pub record IsWritableStep (step : StepOf Named) : Type 0 where
  pub number : IsNumeral step.number
  pub reason : IsWritableReason step.reason
  pub judgement : IsWritableJudgement step.judgement

-- the procedure
pub record IsWritableProcedure (procedure : ProcedureOf Named) : Type 0 where
  pub name : IsName procedure.name
  pub params : Each IsWritableName procedure.params
  pub results : Each IsWritableName procedure.results
  pub pre : IsWritable procedure.pre
  pub post : IsWritable procedure.post
  pub body : IsWritableCommand procedure.body
  pub proof : Each IsWritableStep procedure.proof

-- there is one or more
abbrev pub HasOne : {A : Type 0} → List A → Type 0
HasOne [] = ⊥
HasOne (x ∷ xs) = Unit

-- the theory, whose words are those of its version: no name is `insertBefore` in version 2, and no
-- command is in another
pub record IsWritableTheory (theory : Theory) : Type 0 where
  pub version : IsNumeral theory.version
  pub logic : Each IsDeclarable theory.logic
  pub some : HasOne theory.procedures
  pub procedures : Each IsWritableProcedure theory.procedures
  pub words : Each (Each (IsOfVersion theory.version)) (theory_lines theory)
