use Rattle.std.proofs.Common.{◌≡◌, map, length}
use Rattle.dom_terms.specs.Terms.{prog_var_of}
use Rattle.dom_terms.specs.Values.{value_seen}
use Rattle.model_answers.specs.Arguments.{arguments_of}
use Rattle.request_words.proofs.ArgumentLists.{with_values}
use Rattle.request_words.proofs.arguments.read_arguments.Given as goal

abbrev pub invariant-parameters : goal.invariant-parameters
invariant-parameters l = record {
  same : with_values (map value_seen l.values) (arguments_of (map prog_var_of l.rest) l.left)
      ≡ arguments_of (map prog_var_of l.parameters) l.words;
}

abbrev pub decreases-parameters : goal.decreases-parameters
decreases-parameters l = length l.rest
