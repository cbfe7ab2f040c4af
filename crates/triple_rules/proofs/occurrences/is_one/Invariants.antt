use Rattle.std.proofs.Common.{◌≡◌, map, drop}
use Rattle.model_commands.specs.SortTests.{is_among}
use Rattle.dom_terms.specs.Terms.{prog_var_of}
use Rattle.triple_rules.proofs.occurrences.is_one.Given as goal

abbrev pub invariant-loop-other : goal.invariant-loop-other
invariant-loop-other l =
    is_among (map prog_var_of l.variables) (prog_var_of l.variable)
    ≡ is_among (map prog_var_of (drop l.other-index l.variables)) (prog_var_of l.variable)
