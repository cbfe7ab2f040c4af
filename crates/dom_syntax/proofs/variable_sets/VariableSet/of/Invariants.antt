use Rattle.std.proofs.Common.{drop, map}
use Rattle.dom_terms.specs.Terms.{prog_var_of}
use Rattle.dom_syntax.specs.VariableSets.{Holds}
use Rattle.dom_syntax.proofs.Gathered.{Leads}
use Rattle.dom_syntax.proofs.variable_sets.VariableSet.of.Given as goal

abbrev pub invariant-loop-variable : goal.invariant-loop-variable
invariant-loop-variable l =
    Leads (Holds l.initial.set) (Holds l.set) (map prog_var_of l.xs)
    (map prog_var_of (drop l.variable-index l.xs))
