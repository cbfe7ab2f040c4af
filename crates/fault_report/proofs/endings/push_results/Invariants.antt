use Rattle.std.proofs.Common.{◌≡◌, ◌++◌, map, length}
use Rattle.dom_terms.specs.Terms.{prog_var_of}
use Rattle.dom_terms.specs.Values.{value_seen}
use Rattle.model_answers.specs.Output.{result_lines}
use Rattle.fault_report.proofs.endings.push_results.Given as goal

abbrev pub invariant-results : goal.invariant-results
invariant-results l = record {
  same : l.text ++ result_lines (map prog_var_of l.rest) (map value_seen l.left)
      ≡ l.fn.text ++ result_lines (map prog_var_of l.results) (map value_seen l.values);
}

abbrev pub decreases-results : goal.decreases-results
decreases-results l = length l.rest
