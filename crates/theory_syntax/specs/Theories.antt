-- Needn't be believed: the program's promise doesn't speak of it. The procedures and theories of
-- the definitions that those of the program stand for.
use Rattle.std.specs.Prelude.{map}
use Rattle.model_formulas.specs.Formulas.{Named}
use Rattle.model_commands.specs.Theories as model
use Rattle.dom_terms.specs.Sorts.{data_sort_of}
use Rattle.dom_terms.specs.Terms.{prog_var_of, logic_var_of}
use Rattle.formula_syntax.specs.Formulas.{formula_of}
use Rattle.theory_syntax.specs.Commands.{command_of}
use Rattle.theory_syntax.specs.Judgements.{step_of}
use Rattle.theory_syntax.specs.declared.theories.Procedure.{Procedure}
use Rattle.theory_syntax.specs.declared.theories.Theory.{Theory}

-- the procedure
abbrev pub procedure_of : Procedure → model.ProcedureOf Named
procedure_of procedure = record {
  name = procedure.name;
  params = map prog_var_of procedure.params;
  results = map prog_var_of procedure.results;
  sort = data_sort_of procedure.sort;
  pre = formula_of procedure.pre;
  post = formula_of procedure.post;
  body = command_of procedure.body;
  proof = map step_of procedure.proof;
}

-- the theory
abbrev pub theory_of : Theory → model.Theory
theory_of theory = record {
  version = theory.version;
  logic = map logic_var_of theory.logic;
  procedures = map procedure_of theory.procedures;
}
