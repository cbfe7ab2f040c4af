-- What printed text reads back as.
use Rattle.std.specs.Prelude.{◌≡◌, ℕ, List, map}
use Rattle.model_formulas.specs.Formulas.{Named}
use Rattle.model_commands.specs.Commands.{Command}
use Rattle.model_commands.specs.Theories.{StepOf, ProcedureOf, Theory}
use Rattle.model_text.specs.Lexemes.{Lexeme}
use Rattle.model_text.specs.Nesting.{lexemes_of}
use Rattle.model_grammar.specs.Formulas.{SpellsFormula}
use Rattle.model_grammar.specs.Commands.{SpellsCommand}
use Rattle.model_grammar.specs.Theories.{SpellsTheory}
use Rattle.model_grammar.specs.Sorts.{Declared, sorted_formula, sorted_command}

-- the lexemes spell the formula at a place where this is declared
abbrev pub SpellsFormulaAt : Declared → Named → List Lexeme → Type 0
SpellsFormulaAt declared p lexemes =
    (raw : Named) × SpellsFormula raw lexemes × (p ≡ sorted_formula declared raw)

-- they spell the command there
abbrev pub SpellsCommandAt : Declared → Command → List Lexeme → Type 0
SpellsCommandAt declared c lexemes =
    (raw : Command) × SpellsCommand raw lexemes × (c ≡ sorted_command declared raw)

-- the step as it would be on no line
abbrev pub step_without_line : StepOf Named → StepOf Named
step_without_line step = record {
  number = step.number;
  line = 0;
  reason = step.reason;
  judgement = step.judgement;
}

-- the procedure without the lines of its steps
abbrev pub procedure_without_lines : ProcedureOf Named → ProcedureOf Named
procedure_without_lines procedure = record {
  name = procedure.name;
  params = procedure.params;
  results = procedure.results;
  sort = procedure.sort;
  pre = procedure.pre;
  post = procedure.post;
  body = procedure.body;
  proof = map step_without_line procedure.proof;
}

-- the theory without them
abbrev pub without_lines : Theory → Theory
without_lines theory = record {
  version = theory.version;
  logic = theory.logic;
  procedures = map procedure_without_lines theory.procedures;
}

-- The bytes spell the theory, but for the lines of its steps: those are the lines of the bytes.
abbrev pub ReadsAs : Theory → List ℕ → Type 0
ReadsAs theory bytes =
    (read : Theory) × SpellsTheory read (lexemes_of bytes)
    × (without_lines read ≡ without_lines theory)
