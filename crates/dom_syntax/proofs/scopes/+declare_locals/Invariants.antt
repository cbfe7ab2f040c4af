use Rattle.std.proofs.Common.{drop, map}
use Rattle.dom_terms.specs.Sorts.{value_sort_of}
use Rattle.theory_syntax.specs.Commands.{block_of}
use Rattle.dom_syntax.specs.Tables.{Declares}
use Rattle.dom_syntax.specs.Scopes.{block_locals, variable_entry}
use Rattle.dom_syntax.proofs.Gathered.{Leads}
use Rattle.dom_syntax.proofs.scopes.+declare_locals.Given as goal

abbrev pub invariant-declare_block_locals-loop-command :
    goal.invariant-declare_block_locals-loop-command
invariant-declare_block_locals-loop-command l =
    Leads (Declares value_sort_of l.initial.table) (Declares value_sort_of l.table)
    (map variable_entry (block_locals (block_of l.block)))
    (map variable_entry (block_locals (block_of (drop l.command-index l.command-items))))
