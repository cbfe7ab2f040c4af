-- Needn't be believed: the program's promise doesn't speak of it. What is declared, as the program
-- holds it.
use Rattle.std.specs.Prelude.{List, ◌++◌, map}
use Rattle.model_terms.specs.Variables.{Var}
use Rattle.model_terms.specs.Stores.{as_var}
use Rattle.dom_terms.specs.Terms.{prog_var_of, logic_var_of}
use Rattle.model_grammar.specs.Sorts as model
use Rattle.declared_sorts.specs.declared.declared.Declared.{Declared}

-- these program variables and these logic variables
abbrev pub declared_of : Declared → model.Declared
declared_of declared = record {
  variables = map prog_var_of declared.variables.now;
  logics = map logic_var_of declared.logics.now;
}

-- the names that may be used: those of the program variables, and behind them the logic variables
unfoldable pub scope_in : Declared → List Var
scope_in declared =
    map as_var (map prog_var_of declared.variables.now)
    ++ map logic_var_of declared.logics.now
