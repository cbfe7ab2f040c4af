-- Needn't be believed: the promises speak of the first fault of a file. What is settled: each
-- variable in it is declared, first with its sort.
use Rattle.std.specs.Prelude.{Bool, ◌&&◌, List, ◌++◌, map}
use Rattle.std.specs.List.{flat_map, list_all}
use Rattle.model_terms.specs.Variables.{Var}
use Rattle.model_terms.specs.Stores.{as_var}
use Rattle.model_formulas.specs.Formulas.{Named}
use Rattle.model_commands.specs.CommandParts.{arguments_of, variables_of, variables_of_command, variables_of_judgement, variables_of_term}
use Rattle.model_commands.specs.Theories.{ProcedureOf, StepOf, Theory}
use Rattle.model_files.specs.FileFaults.{declared_by, is_as_declared, is_known}

-- the name of the variable is declared, first with its sort
abbrev pub is_settled : List Var → Var → Bool
is_settled declared x = is_known declared x && is_as_declared declared x

-- each variable of the header and the body is settled
abbrev pub head_settled : List Var → ProcedureOf Named → Bool
head_settled declared f =
    list_all (is_settled declared)
    (variables_of f.pre ++ (variables_of f.post ++ variables_of_command f.body))

-- each variable of the step is
abbrev pub step_settled : List Var → StepOf Named → Bool
step_settled declared step =
    list_all (is_settled declared)
    (variables_of_judgement step.judgement
    ++ flat_map variables_of_term (arguments_of step.reason))

-- each variable of a procedure in a file with these logic variables is
abbrev pub procedure_settled : List Var → ProcedureOf Named → Bool
procedure_settled logics f =
    head_settled (map as_var (declared_by f) ++ logics) f
    && list_all (step_settled (map as_var (declared_by f) ++ logics)) f.proof

-- each variable of a theory is
abbrev pub theory_settled : Theory → Bool
theory_settled theory = list_all (procedure_settled theory.logic) theory.procedures
