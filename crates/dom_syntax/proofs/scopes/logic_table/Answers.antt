use Rattle.std.proofs.Common.{refl, [], ◌∷◌, ◌++◌, map, arith, subst}
use Rattle.dom_terms.specs.Sorts.{sort_of}
use Rattle.dom_syntax.specs.Tables.{Declares}
use Rattle.dom_syntax.specs.Scopes.{logic_entry}
use Rattle.dom_syntax.proofs.Gathered.{leads-item, leads-end}
use Rattle.dom_syntax.proofs.scopes.logic_table.Goals as goal

pub loop-variable-preserved : goal.loop-variable-preserved
loop-variable-preserved c =
    leads-item (map logic_entry) (λ x. logic_entry x ∷ []) (λ x xs. refl)
    (Declares sort_of c.new-table.result) (Declares sort_of c.loop-variable.table)
    (Declares sort_of c.declare.new.self) (map logic_entry c.args.variables.now)
    c.args.variables.now c.loop-variable.variable-index c.variable-item.result (omega arith)
    c.variable-item.is c.loop-variable.invariant
    (λ ds told. subst (λ name. Declares sort_of c.declare.new.self
    (ds ++ (name, sort_of c.variable-item.result.sort) ∷ []))
    c.as_str.ensures (c.in_ok-declare.ensures ds told))

pub returns : goal.returns
returns c =
    leads-end (map logic_entry) refl (Declares sort_of c.new-table.result)
    (Declares sort_of c.loop-variable.table) (map logic_entry c.args.variables.now)
    c.args.variables.now c.loop-variable.variable-index (omega arith) c.loop-variable.invariant []
    c.new-table.ensures
