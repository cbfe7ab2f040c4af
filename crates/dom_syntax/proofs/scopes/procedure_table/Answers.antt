use Rattle.std.proofs.Common.{refl, [], ◌∷◌, ◌++◌, map, arith, List, subst}
use Rattle.model_commands.specs.Theories.{nameless_procedure}
use Rattle.theory_syntax.specs.Theories.{procedure_of}
use Rattle.theory_syntax.specs.declared.theories.Procedure.{Procedure}
use Rattle.dom_syntax.specs.Tables.{Declares}
use Rattle.dom_syntax.specs.Callees.{callee_of, procedure_entry}
use Rattle.dom_syntax.proofs.Gathered.{leads-item, leads-end}
use Rattle.dom_syntax.proofs.scopes.procedure_table.Goals as goal

pub loop-procedure-preserved : goal.loop-procedure-preserved
loop-procedure-preserved c =
    leads-item
    (λ (fs : List Procedure). map procedure_entry (map nameless_procedure (map procedure_of fs)))
    (λ f. procedure_entry (nameless_procedure (procedure_of f)) ∷ []) (λ f fs. refl)
    (Declares callee_of c.new-table.result) (Declares callee_of c.loop-procedure.table)
    (Declares callee_of c.declare.new.self)
    (map procedure_entry (map nameless_procedure (map procedure_of c.args.procedures.now)))
    c.args.procedures.now c.loop-procedure.procedure-index c.procedure-item.result (omega arith)
    c.procedure-item.is c.loop-procedure.invariant
    (λ ds told. subst (λ name. Declares callee_of c.declare.new.self
    (ds ++ (name, nameless_procedure (procedure_of c.procedure-item.result)) ∷ []))
    c.as_str.ensures (c.in_ok-declare.ensures ds told))

pub returns : goal.returns
returns c =
    leads-end
    (λ (fs : List Procedure). map procedure_entry (map nameless_procedure (map procedure_of fs)))
    refl
    (Declares callee_of c.new-table.result) (Declares callee_of c.loop-procedure.table)
    (map procedure_entry (map nameless_procedure (map procedure_of c.args.procedures.now)))
    c.args.procedures.now c.loop-procedure.procedure-index (omega arith)
    c.loop-procedure.invariant [] c.new-table.ensures
