use Rattle.std.proofs.Common.{drop, map}
use Rattle.dom_terms.specs.Sorts.{sort_of}
use Rattle.dom_syntax.specs.Tables.{Declares}
use Rattle.dom_syntax.specs.Scopes.{logic_entry}
use Rattle.dom_syntax.proofs.Gathered.{Leads}
use Rattle.dom_syntax.proofs.scopes.logic_table.Given as goal

abbrev pub invariant-loop-variable : goal.invariant-loop-variable
invariant-loop-variable l =
    Leads (Declares sort_of l.initial.table) (Declares sort_of l.table)
    (map logic_entry l.variables) (map logic_entry (drop l.variable-index l.variables))
