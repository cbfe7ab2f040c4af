use Rattle.std.proofs.Common.{◌≡◌, map, drop}
use Rattle.dom_terms.specs.Terms.{prog_var_of}
use Rattle.theory_syntax.specs.SameCommands.{same_vars}
use Rattle.theory_syntax.proofs.same.same_variables.Given as goal

abbrev pub invariant-loop-variable : goal.invariant-loop-variable
invariant-loop-variable l =
    same_vars (map prog_var_of l.left) (map prog_var_of l.right)
    ≡ same_vars (map prog_var_of (drop l.variable-index l.variable-items))
    (map prog_var_of l.others)
