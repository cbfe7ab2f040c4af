use Rattle.std.proofs.Common.{◌≡◌, drop, map}
use Rattle.std.specs.List.{list_all}
use Rattle.model_terms.specs.Stores.{as_var}
use Rattle.dom_terms.specs.Terms.{prog_var_of}
use Rattle.dom_syntax.proofs.variable_tests.all_variables.Given as goal

abbrev pub invariant-loop-variable : goal.invariant-loop-variable
invariant-loop-variable g l =
    list_all (g.T.VariableTest.test l.test) (map as_var (map prog_var_of l.variables))
    ≡ list_all (g.T.VariableTest.test l.test)
    (map as_var (map prog_var_of (drop l.variable-index l.variables)))
