use Rattle.std.proofs.Common.{◌≡◌, map, take}
use Rattle.dom_terms.specs.Terms.{prog_var_of, logic_var_of}
use Rattle.logic_text.specs.DeclaredFormulas.{declared_vars}
use Rattle.logic_text.proofs.declared_formulas.of_each_kind.Given as goal

abbrev pub invariant-loop-item : goal.invariant-loop-item
invariant-loop-item l =
    (map prog_var_of l.variables ≡ (declared_vars (take l.item-index l.vars)).variables)
    × (map logic_var_of l.logics ≡ (declared_vars (take l.item-index l.vars)).logics)
