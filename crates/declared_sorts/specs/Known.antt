-- Needn't be believed: what is declared at a place has the tables of its own names.
use Rattle.std.specs.Prelude.{map}
use Rattle.declared_sorts.specs.declared.declared.Declared.{Declared}
use Rattle.declared_sorts.specs.Names.{of_variable, of_logic, Tells}

pub record Knows (declared : Declared) : Type 0 where
  pub variables : Tells declared.variable_names.now (map of_variable declared.variables.now)
  pub logics : Tells declared.logic_names.now (map of_logic declared.logics.now)
