use Rattle.std.proofs.Common.{◌≡◌, drop, map}
use Rattle.std.specs.List.{list_all}
use Rattle.model_files.specs.FileFaults.{may_bind}
use Rattle.dom_terms.specs.Terms.{logic_var_of}
use Rattle.dom_syntax.proofs.places.are_logic_sorts.Given as goal

abbrev pub invariant-loop-variable : goal.invariant-loop-variable
invariant-loop-variable l =
    list_all may_bind (map logic_var_of l.variables)
    ≡ list_all may_bind (map logic_var_of (drop l.variable-index l.variables))
