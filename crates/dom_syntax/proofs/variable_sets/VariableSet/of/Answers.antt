use Rattle.std.proofs.Common.{refl, [], ◌∷◌, map, arith}
use Rattle.dom_terms.specs.Terms.{prog_var_of}
use Rattle.dom_syntax.specs.VariableSets.{Holds}
use Rattle.dom_syntax.proofs.Gathered.{leads-item, leads-end}
use Rattle.dom_syntax.proofs.variable_sets.VariableSet.of.Goals as goal

pub loop-variable-preserved : goal.loop-variable-preserved
loop-variable-preserved c =
    leads-item (map prog_var_of) (λ x. prog_var_of x ∷ []) (λ x xs. refl) (Holds c.new-set.result)
    (Holds c.loop-variable.set) (Holds c.insert.new.self) (map prog_var_of c.args.xs.now)
    c.args.xs.now c.loop-variable.variable-index c.variable-item.result (omega arith)
    c.variable-item.is c.loop-variable.invariant c.in_ok-insert.ensures

pub returns : goal.returns
returns c =
    leads-end (map prog_var_of) refl (Holds c.new-set.result) (Holds c.loop-variable.set)
    (map prog_var_of c.args.xs.now) c.args.xs.now c.loop-variable.variable-index (omega arith)
    c.loop-variable.invariant [] c.new-set.ensures
