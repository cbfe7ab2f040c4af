use Rattle.std.proofs.Common.{◌≡◌, ◌++◌, List, drop, map}
use Rattle.model_terms.specs.Stores.{ProgVar, same_name}
use Rattle.model_commands.specs.SortTests.{distinct_by}
use Rattle.dom_terms.specs.Terms.{prog_var_of}
use Rattle.dom_syntax.specs.Fresh.{fresh}
use Rattle.dom_syntax.specs.VariableSets.{Holds}
use Rattle.dom_syntax.proofs.part_tests.put_each.Given as goal

abbrev pub invariant-loop-variable : goal.invariant-loop-variable
invariant-loop-variable l =
    (done : List ProgVar) × Holds l.set done
    × (distinct_by same_name (map prog_var_of l.variables)
    ≡ fresh done (map prog_var_of (drop l.variable-index l.variables)))
    × (done ++ map prog_var_of (drop l.variable-index l.variables)
    ≡ map prog_var_of l.variables)
