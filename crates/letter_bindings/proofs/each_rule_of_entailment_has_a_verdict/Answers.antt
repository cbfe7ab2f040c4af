use Rattle.letter_bindings.proofs.EachRule.{verdict-of-each}
use Rattle.letter_bindings.proofs.each_rule_of_entailment_has_a_verdict.Goals as goal

pub returns : goal.returns
returns c = verdict-of-each
