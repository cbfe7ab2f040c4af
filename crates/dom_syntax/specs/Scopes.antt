-- Needn't be believed: the promises speak of theories and procedures themselves. The names of a
-- theory and of a procedure, in tables.
use Rattle.std.specs.Prelude.{List, map}
use Rattle.std.specs.List.{flat_map}
use Rattle.model_shapes.specs.Sorts as sorts
use Rattle.model_terms.specs.Variables.{Var}
use Rattle.model_terms.specs.Stores.{ProgVar, named}
use Rattle.model_formulas.specs.Formulas.{Named}
use Rattle.model_commands.specs.Commands.{Block}
use Rattle.model_commands.specs.CommandParts.{commands_of, locals}
use Rattle.model_commands.specs.Theories as model
use Rattle.model_files.specs.FileFaults.{declared_by, scope_of}
use Rattle.dom_terms.specs.Sorts.{value_sort_of, sort_of}
use Rattle.dom_terms.specs.declared.terms.LogicVar.{LogicVar}
use Rattle.theory_syntax.specs.Theories.{procedure_of, theory_of}
use Rattle.dom_syntax.specs.declared.scopes.Names.{Names}
use Rattle.dom_syntax.specs.declared.scopes.Scope.{Scope}
use Rattle.dom_syntax.specs.Tables.{Declaration, Declares}
use Rattle.dom_syntax.specs.VariableSets.{Holds}
use Rattle.dom_syntax.specs.Callees.{callee_of, procedure_entry}

-- a program variable declares its name with its sort
abbrev pub variable_entry : ProgVar → Declaration sorts.ValueSort
variable_entry (named name s) = (name, s)

-- a logic variable does
abbrev pub logic_entry : LogicVar → Declaration sorts.Sort
logic_entry x = (x.name, sort_of x.sort)

-- the theory that the names are of
abbrev pub theory_in : Names → model.Theory
theory_in names = theory_of names.theory.now

-- the procedures that calls may enter
abbrev pub callees_in : Names → model.Procedures
callees_in names = model.procedures_of (theory_in names)

-- the tables are those of the theory
pub record HasNames (names : Names) : Type 0 where
  pub procedures : Declares callee_of names.procedures
      (map procedure_entry (callees_in names))
  pub logic : Declares sort_of names.logic (map logic_entry names.theory.now.logic)

-- the local variables of the commands of a block
abbrev pub block_locals : Block → List ProgVar
block_locals b = flat_map locals (commands_of b)

-- the procedure that a scope is of
abbrev pub procedure_in : Scope → model.ProcedureOf Named
procedure_in scope = procedure_of scope.procedure.now

-- what may be named in it
abbrev pub names_in : Scope → List Var
names_in scope = scope_of (theory_in scope.names.now) (procedure_in scope)

-- the tables are those of the theory and of the procedure
pub record IsScope (scope : Scope) : Type 0 where
  pub names : HasNames scope.names.now
  pub params : Holds scope.params (procedure_in scope).params
  pub results : Holds scope.results (procedure_in scope).results
  pub variables : Declares value_sort_of scope.variables
      (map variable_entry (declared_by (procedure_in scope)))
