use Rattle.std.proofs.Common.{drop, map}
use Rattle.model_commands.specs.Theories.{nameless_procedure}
use Rattle.theory_syntax.specs.Theories.{procedure_of}
use Rattle.dom_syntax.specs.Tables.{Declares}
use Rattle.dom_syntax.specs.Callees.{callee_of, procedure_entry}
use Rattle.dom_syntax.proofs.Gathered.{Leads}
use Rattle.dom_syntax.proofs.scopes.procedure_table.Given as goal

abbrev pub invariant-loop-procedure : goal.invariant-loop-procedure
invariant-loop-procedure l =
    Leads (Declares callee_of l.initial.table) (Declares callee_of l.table)
    (map procedure_entry (map nameless_procedure (map procedure_of l.procedures)))
    (map procedure_entry (map nameless_procedure
    (map procedure_of (drop l.procedure-index l.procedures))))
