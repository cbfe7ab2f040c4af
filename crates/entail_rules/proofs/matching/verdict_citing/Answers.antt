-- Each formula has a number.
use Rattle.std.proofs.Common.{map}
use Rattle.dom_terms.specs.Terms.{term_of}
use Rattle.entail_rules.proofs.Numbers.{numbers-rows}
use Rattle.entail_rules.proofs.matching.verdict_citing.Goals as goal

pub returns-clause-rows : goal.returns-clause-rows
returns-clause-rows c =
    numbers-rows c.number_step.new.table c.in_ok-numbers.numbers (map term_of c.args.arguments.now)
    c.args.cited c.args.conclusion.now c.in_ok-numbers.ensures.numbers
