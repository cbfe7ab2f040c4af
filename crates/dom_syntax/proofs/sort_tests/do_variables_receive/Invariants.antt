use Rattle.std.proofs.Common.{◌≡◌, drop, map}
use Rattle.model_commands.specs.SortTests.{receives}
use Rattle.dom_terms.specs.Terms.{prog_var_of}
use Rattle.dom_syntax.proofs.sort_tests.do_variables_receive.Given as goal

abbrev pub invariant-loop-result : goal.invariant-loop-result
invariant-loop-result l =
    receives (map prog_var_of l.results) (map prog_var_of l.variables)
    ≡ receives (map prog_var_of (drop l.result-index l.results)) (map prog_var_of l.others)
