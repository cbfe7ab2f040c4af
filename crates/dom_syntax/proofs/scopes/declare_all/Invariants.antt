use Rattle.std.proofs.Common.{drop, map}
use Rattle.dom_terms.specs.Sorts.{value_sort_of}
use Rattle.dom_terms.specs.Terms.{prog_var_of}
use Rattle.dom_syntax.specs.Tables.{Declares}
use Rattle.dom_syntax.specs.Scopes.{variable_entry}
use Rattle.dom_syntax.proofs.Gathered.{Leads}
use Rattle.dom_syntax.proofs.scopes.declare_all.Given as goal

abbrev pub invariant-loop-variable : goal.invariant-loop-variable
invariant-loop-variable l =
    Leads (Declares value_sort_of l.initial.table) (Declares value_sort_of l.table)
    (map variable_entry (map prog_var_of l.variables))
    (map variable_entry (map prog_var_of (drop l.variable-index l.variables)))
